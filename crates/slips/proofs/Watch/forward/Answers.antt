-- `slips::Watch::forward` meets its contract.
-- Assumes nothing.
use native.Mathlib.Omega.{arith}
use Rattle.slips.proofs.Laws.{follows}
use Rattle.slips.proofs.Steps.{can_be_then, follows_then}
use Rattle.slips.proofs.Watch.forward.Goals as goal

pub overflow_add-missing : goal.overflow_add-missing
overflow_add-missing c = omega (arith, (follows _ _ _ _ (follows_then _ _ _ _ c.requires)).missing_to)

pub overflow_add-missing-in-InStep : goal.overflow_add-missing-in-InStep
overflow_add-missing-in-InStep c = omega (arith, (follows _ _ _ _ (follows_then _ _ _ _ c.requires)).missing_to)

pub overflow_add-missing-in-OutOfStep : goal.overflow_add-missing-in-OutOfStep
overflow_add-missing-in-OutOfStep c = omega (arith, (follows _ _ _ _ (follows_then _ _ _ _ c.requires)).missing_to)

pub starts-requires : goal.starts-requires
starts-requires c =
    let can = can_be_then _ _ _ _ (rw c.in-Begun.is at c.requires) in
    (omega (arith, can.number_to), omega (arith, (follows _ _ _ _ (follows_then _ _ _ _ c.requires)).missing_to))

pub starts-requires-in-InStep : goal.starts-requires-in-InStep
starts-requires-in-InStep c =
    let can = can_be_then _ _ _ _ (rw c.in-InStep.is at c.requires) in
    (omega (arith, can.number_to), omega (arith, (follows _ _ _ _ (follows_then _ _ _ _ c.requires)).missing_to))

pub starts-requires-in-OutOfStep : goal.starts-requires-in-OutOfStep
starts-requires-in-OutOfStep c =
    let can = can_be_then _ _ _ _ (rw c.in-OutOfStep.is at c.requires) in
    (omega (arith, can.number_to), omega (arith, (follows _ _ _ _ (follows_then _ _ _ _ c.requires)).missing_to))

pub out_of_step-requires : goal.out_of_step-requires
out_of_step-requires c =
    let can = can_be_then _ _ _ _ (rw c.in-OutOfStep.is at c.requires) in
    (omega (arith, can.may_sure), c.starts-in-OutOfStep.ensures.1)
