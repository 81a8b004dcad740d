-- `table::take` meets its contract. The loop goes along the piece; the measure is what is left of it.
-- Assumes nothing.
use Rattle.std.proofs.Common.{◌+◌, ◌<◌, ◌≤◌, length, arith}
use native.Mathlib.Nat.{add-sub_cancel_left}
use Rattle.table.proofs.Taken.{going_on, going_turn, going_end}
use Rattle.table.proofs.take.Goals as goal
use Rattle.table.proofs.take.Goals.{After-ahead-step}

-- the step is within the piece
on : (c : After-ahead-step)
    → (0 < c.ahead-step.result.used)
    × (c.loop-place.place + c.ahead-step.result.used ≤ length c.args.piece.now)
    × (c.loop-place.place + c.ahead-step.result.octets ≤ length c.args.piece.now)
on c = going_on c.loop-place.invariant c.loop-place-test.true c.ahead-step.ensures

pub overflow_add-end : goal.overflow_add-end
overflow_add-end c = omega (arith, (on (goal.at.overflow_add-end c).After-ahead-step).2, c.well_formed)

pub slice_bounds-stepped-end : goal.slice_bounds-stepped-end
slice_bounds-stepped-end c = (on (goal.at.slice_bounds-stepped-end c).After-ahead-step).2

pub overflow_add-place : goal.overflow_add-place
overflow_add-place c = omega (arith, (on (goal.at.overflow_add-place c).After-ahead-step).1, c.well_formed)

pub loop-place-smaller : goal.loop-place-smaller
loop-place-smaller c = omega (arith, on (goal.at.loop-place-smaller c).After-ahead-step)

pub loop-place-preserved : goal.loop-place-preserved
loop-place-preserved c = going_turn c.loop-place.invariant c.loop-place-test.true c.ahead-step.ensures
    (add-sub_cancel_left c.loop-place.place c.ahead-step.result.octets)
    c.stepped-going.ensures c.stepped-going.auto.rows c.stepped-going.auto.kept

pub returns : goal.returns
returns c = record { stands = going_end c.loop-place.invariant c.loop-place-test.false }
