-- `receiver::entries::split` meets its contract.
-- Assumes nothing.
use mathlib.Core.Path.{refl, ◌∙◌, ap}
use Prim.Native.Nat.{◌+◌}
use lib.ListN.{get_or}
use Rattle.cells.specs.Cells.{sample_in, ancillary_in, mark_in}
use Rattle.receiver.proofs.Marking.{sample_over, ancillary_over, mark_on_top}
use Rattle.receiver.proofs.Unpacking.{held_on, held_done, held_ahead}
use Rattle.receiver.proofs.entries.split.Goals as goal

pub loop-i-preserved : goal.loop-i-preserved
loop-i-preserved c = let a = c.args in
    let f = a.format in
    let room = c.requires.3 in
    let less = c.loop-i-test.true in
    let inv = c.loop-i.invariant in
    let subframe = get_or c.loop-i.samples (a.at + c.loop-i.i) 0 in
    let was = held_ahead (sample_in f) a.samples.now a.samples.now a.at a.used room.samples_room inv.0 in (
      held_on (sample_in f) a.samples.now a.samples.now a.at a.used room.samples_room inv.0 less
          (sample_over f c.requires.2 subframe c.requires.1 ∙ ap (sample_in f) was),
      held_on (ancillary_in f) a.samples.now a.ancillary.now a.at a.used room.ancillary_room inv.1 less
          (ancillary_over f c.requires.2 subframe c.requires.1 ∙ ap (ancillary_in f) was),
      held_on (mark_in f) a.samples.now a.marks.now a.at a.used room.marks_room inv.2 less
          (mark_on_top f c.requires.2 subframe c.requires.1 f.sample_bits _ refl c.requires.0.sample_from refl
          c.marks.result c.marks.ensures.0
          ∙ ap (mark_in f) was),
    )

pub returns : goal.returns
returns c = let a = c.args in
    let room = c.requires.3 in
    let inv = c.loop-i.invariant in
    let left = c.loop-i-test.false in
    record {
      samples_are = held_done (sample_in a.format) a.samples.now a.samples.now a.at a.used room.samples_room inv.0 left;
      ancillary_is = held_done (ancillary_in a.format) a.samples.now a.ancillary.now a.at a.used room.ancillary_room inv.1 left;
      marks_are = held_done (mark_in a.format) a.samples.now a.marks.now a.at a.used room.marks_room inv.2 left;
    }
