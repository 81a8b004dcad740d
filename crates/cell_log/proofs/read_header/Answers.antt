-- `cell_log::read_header` meets its contract: a law for each return.
-- Assumes nothing.
use mathlib.Core.Path.{refl}
use Rattle.std.proofs.lemmas.Result.{err_from_is_err_and}
use Rattle.refusals.proofs.Laws.{number_not_0}
use Rattle.cell_log.proofs.Headers.{header_first, header_second, header_third, header_unsettled, header_taken}
use Rattle.cell_log.proofs.read_header.Goals as goal

pub returns-in_err-format : goal.returns-in_err-format
returns-in_err-format c =
    let p = err_from_is_err_and c.from_residual.result c.from_residual.ensures.1 in
    rw (p.1, p.2) (header_first _ c.in_err-format.ensures (number_not_0 _) refl)

pub returns-in_err-channels : goal.returns-in_err-channels
returns-in_err-channels c =
    let p = err_from_is_err_and c.from_residual-in_err-channels.result c.from_residual-in_err-channels.ensures.1 in
    rw (p.1, p.2) (header_second _ c.in_ok-format.ensures c.in_err-channels.ensures refl (number_not_0 _) refl)

pub returns-in_err-order : goal.returns-in_err-order
returns-in_err-order c =
    let p = err_from_is_err_and c.from_residual-in_err-order.result c.from_residual-in_err-order.ensures.1 in
    rw (p.1, p.2) (header_third _ c.in_ok-format.ensures c.in_ok-channels.ensures refl c.in_err-order.ensures refl (number_not_0 _) refl)

pub returns-in_err-settings : goal.returns-in_err-settings
returns-in_err-settings c =
    let p = err_from_is_err_and c.from_residual-in_err-settings.result c.from_residual-in_err-settings.ensures.1 in
    rw (p.1, p.2)
    (header_unsettled _ c.in_ok-format.ensures c.in_ok-channels.ensures refl c.in_ok-order.ensures refl c.in_err-settings.ensures refl (number_not_0 _) refl)

pub returns : goal.returns
returns c =
    header_taken _ c.in_ok-format.ensures c.in_ok-channels.ensures refl c.in_ok-order.ensures refl c.in_ok-settings.ensures refl refl
