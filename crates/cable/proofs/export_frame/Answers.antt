-- `cable::export_frame` meets its contract.
-- Assumes nothing.
use mathlib.Core.Path.{sym}
use Rattle.std.proofs.lemmas.Result.{err_from_is_err_and}
use Rattle.refusals.specs.Refusals.{refused_by}
use Rattle.refusals.proofs.Laws.{number_not_0}
use Rattle.cable.proofs.Refusals.{export_refused, export_made, export_fits}
use Rattle.cable.proofs.export_frame.Goals as goal

pub returns-in_err-export_checked : goal.returns-in_err-export_checked
unfolding refused_by
returns-in_err-export_checked c =
    let p = err_from_is_err_and c.from_residual.result c.from_residual.ensures.1 in
    rw (p.1, p.2) (export_refused _ _ c.in_err-export_checked.ensures (number_not_0 _))

pub subframe_of-requires : goal.subframe_of-requires
unfolding refused_by
subframe_of-requires c = (export_fits _ _ (sym c.in_ok-export_checked.ensures)).first_sample

pub subframe_of-requires-2 : goal.subframe_of-requires-2
unfolding refused_by
subframe_of-requires-2 c = (export_fits _ _ (sym c.in_ok-export_checked.ensures)).second_sample

pub returns : goal.returns
unfolding refused_by
returns c =
    export_made _ _ (sym c.in_ok-export_checked.ensures) c.preamble_of.ensures c.subframe_of.ensures c.subframe_of-2.ensures
