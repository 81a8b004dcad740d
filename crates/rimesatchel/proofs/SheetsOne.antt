-- No second answer meets the contract of the sheet. Stated over the contract itself.
-- Assumes nothing.
use mathlib.Core.Path.{sym, ◌∙◌}
use Rattle.runs.proofs.One.{One}
use Rattle.rimesatchel.proofs.sheets.rime_sheet.Kinds as sheet-kinds
use Rattle.rimesatchel.proofs.sheets.rime_sheet.Reads as sheet-reads

pub rime_sheet_one : One sheet-kinds.ps sheet-kinds.r sheet-reads.Pre sheet-reads.Post
rime_sheet_one κs a x y v w pre p q = (
  p.refused ∙ sym q.refused,
  λ i. (tt, (tt, ((p.rows_after ∙ sym q.rows_after) i, ((p.totals_after ∙ sym q.totals_after) i, tt)))),
)
