-- `circuits::plan` meets its contract.
-- Assumes nothing.
use mathlib.Core.Path.{refl}
use native.Mathlib.Omega.{arith}
use Rattle.std.proofs.lemmas.Result.{err_from_is_err_and}
use Rattle.refusals.specs.Refusals.{refused_by}
use Rattle.refusals.proofs.Laws.{number_not_0}
use Rattle.circuits.proofs.Laws.{plan_format, plan_other, plan_taken, slots_given}
use Rattle.circuits.proofs.plan.Goals as goal

pub returns-in_err-slots : goal.returns-in_err-slots
unfolding refused_by
returns-in_err-slots c =
    let p = err_from_is_err_and c.from_residual.result c.from_residual.ensures.1 in
    rw (p.1, p.2) (plan_format _ _ _ c.in_err-slots.ensures refl (number_not_0 _))

pub plan_checked-requires : goal.plan_checked-requires
plan_checked-requires c = slots_given _ c.in_ok-slots.ensures

pub returns-in_err-plan_checked : goal.returns-in_err-plan_checked
unfolding refused_by
returns-in_err-plan_checked c =
    let p = err_from_is_err_and c.from_residual-in_err-plan_checked.result c.from_residual-in_err-plan_checked.ensures.1 in
    rw (p.1, p.2) (plan_other _ _ _ c.in_ok-slots.ensures refl c.in_err-plan_checked.ensures (number_not_0 _))

pub overflow_cast-slots : goal.overflow_cast-slots
overflow_cast-slots c = omega (arith, slots_given _ c.in_ok-slots.ensures)

pub returns : goal.returns
unfolding refused_by
returns c = plan_taken _ _ _ c.in_ok-slots.ensures refl c.in_ok-plan_checked.ensures c.fill.ensures
