-- `receiver::entries::split_without_v` meets its contract.
-- Assumes nothing.
use mathlib.Core.Path.{◌∙◌, ap}
use Prim.Native.Nat.{◌+◌, ◌≤◌}
use native.Mathlib.Omega.{arith}
use lib.ListN.{get_or}
use Rattle.cells.specs.Cells.{sample_in, mark_in}
use Rattle.receiver.proofs.Marking.{sample_alone, mark_alone}
use Rattle.receiver.proofs.Unpacking.{held_on, held_done, held_ahead}
use Rattle.receiver.proofs.entries.split_without_v.Goals as goal
use Rattle.receiver.proofs.entries.split_without_v.Goals.{Start}

-- a sample with overhead alone has nine bits
nine : (s : Start) → 9 ≤ s.args.format.sample_bits
nine s = omega (arith, s.requires.0.bits, s.requires.0.sample_from, s.requires.1, s.requires.2)

pub loop-i-preserved : goal.loop-i-preserved
loop-i-preserved c = let a = c.args in
    let f = a.format in
    let less = c.loop-i-test.true in
    let inv = c.loop-i.invariant in
    let subframe = get_or c.loop-i.samples (a.at + c.loop-i.i) 0 in
    let was = held_ahead (sample_in f) a.samples.now a.samples.now a.at a.used c.requires.3 inv.0 in (
      held_on (sample_in f) a.samples.now a.samples.now a.at a.used c.requires.3 inv.0 less
          (sample_alone f c.requires.2 subframe c.requires.1 ∙ ap (sample_in f) was),
      held_on (mark_in f) a.samples.now a.marks.now a.at a.used c.requires.4 inv.1 less
          (mark_alone f c.requires.2 subframe c.requires.1 (nine (goal.at.loop-i-preserved c).Start)
          c.marks_without_v.result c.marks_without_v.ensures.0
          ∙ ap (mark_in f) was),
    )

pub returns : goal.returns
returns c = let a = c.args in
    let inv = c.loop-i.invariant in (
      held_done (sample_in a.format) a.samples.now a.samples.now a.at a.used c.requires.3 inv.0 c.loop-i-test.false,
      held_done (mark_in a.format) a.samples.now a.marks.now a.at a.used c.requires.4 inv.1 c.loop-i-test.false,
    )
