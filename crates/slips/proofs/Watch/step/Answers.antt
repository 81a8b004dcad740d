-- `slips::Watch::step` meets its contract.
-- Assumes nothing.
use mathlib.Core.Path.{sym, ◌∙◌}
use Rattle.std.proofs.lemmas.Result.{err_from_is_err_and}
use Rattle.refusals.specs.Refusals.{refused_by}
use Rattle.refusals.proofs.Laws.{number_not_0}
use Rattle.slips.proofs.Steps.{step_refused, taken_then}
use Rattle.slips.proofs.Watch.step.Goals as goal

pub returns-in_err-checked : goal.returns-in_err-checked
unfolding refused_by
returns-in_err-checked c =
    let p = err_from_is_err_and c.from_residual.result c.from_residual.ensures.1 in
    rw (p.1, p.2) (step_refused _ _ _ _ c.in_err-checked.ensures (number_not_0 _))

pub forward-after-requires : goal.forward-after-requires
unfolding refused_by
forward-after-requires c = sym c.in_ok-checked.ensures

pub returns : goal.returns
unfolding refused_by
returns c = c.forward-after.ensures ∙ taken_then _ _ _ _ (sym c.in_ok-checked.ensures)
