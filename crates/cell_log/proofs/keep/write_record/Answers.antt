-- `cell_log::keep::write_record` meets its contract: a law for each return.
-- Assumes nothing.
use mathlib.Core.Path.{refl, ◌∙◌}
use native.Mathlib.Omega.{arith}
use Rattle.refusals.specs.Refusals.{number_of}
use Rattle.cell_log.proofs.Keeping.{keeps_not, octet_as_converted, record_no_cell, record_no_room, record_stored}
use Rattle.cell_log.proofs.keep.write_record.Goals as goal

pub returns-then-cell-ne48 : goal.returns-then-cell-ne48
unfolding number_of
returns-then-cell-ne48 c = keeps_not 4 (record_no_cell _ _ _ c.if-cell-ne48.true) refl

pub returns-then-saturating_sub-lt49 : goal.returns-then-saturating_sub-lt49
unfolding number_of
returns-then-saturating_sub-lt49 c =
    keeps_not 11 (record_no_room _ _ _ c.if-cell-ne48.false (omega (arith, c.saturating_sub.ensures))) refl

pub returns : goal.returns
returns c =
    record_stored _ _ _ c.from.result (c.from.ensures ∙ octet_as_converted _) c.if-cell-ne48.false (omega (arith, c.saturating_sub.ensures)) refl
    c.copy_from_slice.ensures.after
