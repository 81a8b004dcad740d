-- `receiver::bits::eight_in` meets its contract.
-- Assumes nothing.
use mathlib.Core.Path.{◌≡◌, ◌∙◌, ap}
use native.Mathlib.Omega.{arith}
use Rattle.numbers.specs.Numbers.{gathered}
use Rattle.cells.specs.Cells.{bit_in, eight_in}
use Rattle.receiver.proofs.Reading.{gathers_begun, gathers_on}
use Rattle.receiver.proofs.bits.eight_in.Goals as goal

pub loop-slot-init : goal.loop-slot-init
loop-slot-init c = gathers_begun (bit_in c.args.format c.args.cell.now)

pub loop-slot-preserved : goal.loop-slot-preserved
loop-slot-preserved c = gathers_on (bit_in c.args.format c.args.cell.now)
    c.loop-slot.invariant c.loop-slot-test.true c.bit_in.ensures.0 c.bit_in.ensures.1

pub returns : goal.returns
unfolding eight_in
returns c = let end : c.loop-slot.slot ≡ 8 = omega arith in c.loop-slot.invariant.is ∙ ap
    (gathered (bit_in c.args.format c.args.cell.now)) end
