-- `cell_log::keep::write_header` meets its contract: a law for each return.
-- Assumes nothing.
use mathlib.Core.Path.{◌≡◌, refl}
use native.Mathlib.Omega.{arith}
use lib.ListN.{length-set}
use Rattle.std.proofs.lemmas.Result.{err_from_is_err_and}
use Rattle.refusals.specs.Refusals.{number_of}
use Rattle.refusals.proofs.Laws.{number_not_0}
use Rattle.formats.specs.Formats.{settings_refusal}
use Rattle.formats.proofs.Laws.{given_none}
use Rattle.cell_log.proofs.Keeping.{keeps_not, keeps_no}
use Rattle.cell_log.proofs.Headers.{header_refused, header_no_room, header_stored, format_small, channels_small, order_small}
use Rattle.cell_log.proofs.keep.write_header.Goals as goal
use Rattle.cell_log.proofs.keep.write_header.Goals.{In_ok-settings}

-- the numbers are those of a format
settled : (c : In_ok-settings)
    → settings_refusal c.args.format c.args.channels
    c.args.order ≡ 0
settled c = given_none _ _ _ 0 c.in_ok-settings.ensures refl

pub returns-in_err-settings : goal.returns-in_err-settings
returns-in_err-settings c =
    let p = err_from_is_err_and c.from_residual.result c.from_residual.ensures.1 in
    let some = number_not_0 c.in_err-settings.field-0.0 in
    rw (p.1, p.2) (keeps_no (header_refused _ _ _ _ c.in_err-settings.ensures some) some refl)

pub returns-then-log-lt3 : goal.returns-then-log-lt3
unfolding number_of
returns-then-log-lt3 c = keeps_not 10 (header_no_room _ _ _ _ (settled (goal.at.returns-then-log-lt3 c).In_ok-settings) c.if-log-lt3.true) refl

pub overflow_cast-log : goal.overflow_cast-log
overflow_cast-log c = omega (arith, format_small _ _ _ (settled (goal.at.overflow_cast-log c).In_ok-settings))

pub overflow_cast-log-2 : goal.overflow_cast-log-2
overflow_cast-log-2 c = omega (arith, channels_small _ _ _ (settled (goal.at.overflow_cast-log-2 c).In_ok-settings))

pub bounds-log-1 : goal.bounds-log-1
bounds-log-1 c = simp length-set (omega arith)

pub overflow_cast-log-3 : goal.overflow_cast-log-3
overflow_cast-log-3 c = omega (arith, order_small _ _ _ (settled (goal.at.overflow_cast-log-3 c).In_ok-settings))

pub returns : goal.returns
returns c = header_stored _ _ _ _ (settled (goal.at.returns c).In_ok-settings) c.if-log-lt3.false refl
