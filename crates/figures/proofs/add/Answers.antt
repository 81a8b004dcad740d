-- `figures::add` meets its contract.
-- Assumes nothing.
use mathlib.Core.Path.{◌∙◌, ap}
use native.Mathlib.Omega.{arith}
use lib.ListN.{length}
use Rattle.figures.proofs.Adding.{adds_past, adds_row}
use Rattle.figures.proofs.Laws.{counts_begun, capped_row, length_row}
use Rattle.figures.proofs.add.Goals as goal
use Rattle.figures.proofs.add.Goals.{then-index-rows, else-index-rows}

pub row_of-requires : goal.row_of-requires
row_of-requires c = capped_row _ c.plus-counted.ensures

pub put-requires : goal.put-requires
put-requires c = (omega (arith, c.if-index-rows.true), ap length c.row_of.ensures ∙ length_row _)

pub shape_of-rows : goal.shape_of-rows
shape_of-rows c = elim c.if-index-rows.branch [
  | then-index-rows w ↦ ap length w.rows-is ∙ w.put.auto.rows
  | else-index-rows w ↦ ap length w.rows-is
]

pub returns : goal.returns
returns c = elim c.if-index-rows.branch [
  | then-index-rows w ↦ rw w.rows-is (adds_row _ _ _ _ c.plus.ensures w.if-index-rows.true (counts_begun w.default.ensures) w.plus-counted.ensures
      w.row_of.ensures w.put.ensures)
  | else-index-rows w ↦ rw w.rows-is (adds_past _ _ _ _ c.plus.ensures w.if-index-rows.false)
]
