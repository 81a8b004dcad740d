-- `circuits::check` meets its contract.
-- Assumes nothing.
use mathlib.Core.Path.{refl}
use native.Mathlib.Omega.{arith}
use Rattle.std.proofs.lemmas.Result.{err_from_is_err_and}
use Rattle.refusals.specs.Refusals.{refused_by}
use Rattle.refusals.proofs.Laws.{number_not_0}
use Rattle.circuits.proofs.Laws.{check_format, check_other, check_passes, check_taken, slots_given}
use Rattle.circuits.proofs.check.Goals as goal

pub returns-in_err-slots : goal.returns-in_err-slots
returns-in_err-slots c =
    let p = err_from_is_err_and c.from_residual.result c.from_residual.ensures.1 in
    rw (p.1, p.2) (check_format _ _ _ _ _ c.in_err-slots.ensures refl (number_not_0 _))

pub returns-in_err-check_checked : goal.returns-in_err-check_checked
unfolding refused_by
returns-in_err-check_checked c =
    let p = err_from_is_err_and c.from_residual-in_err-check_checked.result c.from_residual-in_err-check_checked.ensures.1 in
    rw (p.1, p.2) (check_other _ _ _ _ _ c.in_ok-slots.ensures refl c.in_err-check_checked.ensures (number_not_0 _))

pub overflow_cast-slots : goal.overflow_cast-slots
overflow_cast-slots c = omega (arith, slots_given _ c.in_ok-slots.ensures)

pub judge-requires : goal.judge-requires
unfolding refused_by
judge-requires c = check_passes _ _ _ _ _ c.in_ok-slots.ensures refl c.in_ok-check_checked.ensures

pub returns : goal.returns
unfolding refused_by
returns c = check_taken _ _ _ _ _ c.in_ok-slots.ensures refl c.in_ok-check_checked.ensures c.judge.ensures
