-- `presence::take` meets its contract.
-- Assumes nothing.
use Rattle.std.proofs.Common.{arith}
use Rattle.pieces.proofs.Walks.{found_room}
use Rattle.presence.proofs.Going.{going_start, going_turn, going_on, going_end}
use Rattle.presence.proofs.take.Goals as goal

pub loop-place-init : goal.loop-place-init
loop-place-init c =
    going_start (omega arith)

pub step-sought-requires : goal.step-sought-requires
step-sought-requires c two = found_room c.next-found.ensures two

pub loop-place-smaller : goal.loop-place-smaller
loop-place-smaller c = omega (arith, going_on c.loop-place.invariant c.loop-place-test.true c.next-found.ensures)

pub loop-place-preserved : goal.loop-place-preserved
loop-place-preserved c = going_turn c.loop-place.invariant c.loop-place-test.true c.next-found.ensures c.step-sought.ensures

pub returns : goal.returns
returns c = going_end c.loop-place.invariant c.loop-place-test.false
