-- `salvaging::take` meets its contract.
-- Assumes nothing.
use Rattle.std.proofs.Common.{refl, arith}
use Rattle.pieces.proofs.Walks.{found_room}
use Rattle.salvaging.proofs.Going.{going_start, going_turn, going_on, going_end}
use Rattle.salvaging.proofs.take.Goals as goal

pub loop-place-init : goal.loop-place-init
loop-place-init c = going_start (omega arith)

pub step-stepped-requires : goal.step-stepped-requires
step-stepped-requires c two = found_room c.next-found.ensures two

pub loop-place-smaller : goal.loop-place-smaller
loop-place-smaller c = omega (arith, going_on c.loop-place.invariant c.loop-place-test.true c.next-found.ensures)

pub loop-place-preserved : goal.loop-place-preserved
loop-place-preserved c = going_turn c.loop-place.invariant c.loop-place-test.true c.next-found.ensures c.step-stepped.ensures c.step-stepped.auto.out
    c.step-stepped.auto.notes

pub shape_of-out : goal.shape_of-out
shape_of-out c = c.loop-place.invariant.same_out

pub shape_of-notes : goal.shape_of-notes
shape_of-notes c = c.loop-place.invariant.same_notes

pub returns : goal.returns
returns c = going_end c.args.salvaging
    c.loop-place.invariant c.loop-place-test.false refl
