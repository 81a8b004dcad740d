-- `receiver::usual::own_entries` meets its contract.
-- Assumes nothing.
use mathlib.Core.Path.{◌≡◌, refl, ◌∙◌}
use Prim.Native.Nat.{◌*◌, ◌/◌, ◌%◌}
use native.Mathlib.Omega.{arith}
use Rattle.receiver.specs.Unpacking.{fours}
use Rattle.receiver.proofs.Marking.{mark_on_top}
use Rattle.receiver.proofs.Reading.{by_width, four_read}
use Rattle.receiver.proofs.AllSlots.{entered_on, entered_done}
use Rattle.receiver.proofs.usual.own_entries.Goals as goal

pub loop-i-preserved : goal.loop-i-preserved
loop-i-preserved c = let less = c.loop-i-test.true in
    let word = c.in4-subframe.result in
    entered_on c.args.cell.now c.args.at c.args.samples.now c.args.ancillary.now c.args.marks.now c.requires.1
    c.loop-i.invariant less
    (by_width fours c.args.cell.now c.loop-i.i refl
    (c.in4-subframe.ensures.0 ∙ four_read c.args.cell.now (c.loop-i.i * 4) (omega (arith, c.requires.0, less))))
    (mark_on_top fours refl word refl 24 (word / 8388608) refl (omega arith)
    (let on-top : word / 8388608 % 512 ≡ word / 256 * 2 / 65536 % 512 = omega arith in on-top) c.marks-bits.result
    c.marks-bits.ensures.0)
    c.enter.ensures

pub returns : goal.returns
returns c = entered_done c.args.cell.now c.args.at c.args.samples.now c.args.ancillary.now c.args.marks.now
    c.requires.1 c.loop-i.invariant c.loop-i-test.false
