-- `cable::import_frame` meets its contract.
-- Assumes nothing.
use mathlib.Core.Path.{sym}
use Rattle.std.proofs.lemmas.Result.{err_from_is_err_and}
use Rattle.refusals.specs.Refusals.{refused_by}
use Rattle.refusals.proofs.Laws.{number_not_0}
use Rattle.cable.proofs.Refusals.{import_refused, import_made}
use Rattle.cable.proofs.import_frame.Goals as goal

pub returns-in_err-import_checked : goal.returns-in_err-import_checked
unfolding refused_by
returns-in_err-import_checked c =
    let p = err_from_is_err_and c.from_residual.result c.from_residual.ensures.1 in
    rw (p.1, p.2) (import_refused _ _ c.in_err-import_checked.ensures (number_not_0 _))

pub returns : goal.returns
unfolding refused_by
returns c =
    import_made _ _ (sym c.in_ok-import_checked.ensures) c.begins_by-begins.ensures.0 c.sample_in.ensures c.sample_in-2.ensures
    c.ancillary_in.ensures c.ancillary_in-2.ensures
