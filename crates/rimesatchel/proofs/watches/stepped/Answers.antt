-- `rimesatchel::watches::stepped` meets its contract.
-- Assumes nothing.
use Rattle.std.proofs.lemmas.Result.{err_from_is_err_and}
use Rattle.refusals.specs.Refusals.{refused_by}
use Rattle.rimesatchel.proofs.WatchesLaws.{report_refused, step_taken}
use Rattle.rimesatchel.proofs.watches.stepped.Goals as goal

pub returns-in_err-after : goal.returns-in_err-after
unfolding refused_by
returns-in_err-after c =
    let p = err_from_is_err_and c.from_residual.result c.from_residual.ensures.1 in
    rw (p.1, p.2) (report_refused _ _ _ c.in_err-after.ensures.step)

pub returns : goal.returns
unfolding refused_by
returns c = step_taken _ _ _ c.in_ok-after.ensures.step c.in_ok-after.ensures.octets
