-- `listing::take` meets its contract. The loop goes along the piece; the measure is what is left of it.
-- Assumes nothing.
use Rattle.std.proofs.Common.{arith}
use Rattle.pieces.proofs.Walks.{found_room}
use Rattle.listing.proofs.Texts.{going_start, going_turn, going_on, going_end}
use Rattle.listing.proofs.take.Goals as goal

pub loop-place-init : goal.loop-place-init
loop-place-init c = going_start (omega arith)

pub step-stepped-requires : goal.step-stepped-requires
step-stepped-requires c two = found_room c.next-found.ensures two

pub loop-place-smaller : goal.loop-place-smaller
loop-place-smaller c = omega (arith, going_on c.loop-place.invariant c.loop-place-test.true c.next-found.ensures)

pub loop-place-preserved : goal.loop-place-preserved
loop-place-preserved c = going_turn c.loop-place.invariant c.loop-place-test.true c.next-found.ensures c.step-stepped.ensures c.step-stepped.auto.run

pub shape_of-run : goal.shape_of-run
shape_of-run c = c.loop-place.invariant.same

pub returns : goal.returns
returns c = going_end c.loop-place.invariant c.loop-place-test.false
