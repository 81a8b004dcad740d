-- `figures::fill` meets its contract. The loop goes along the logs.
-- Assumes nothing.
use mathlib.Core.Path.{refl, ◌∙◌, ap}
use native.Mathlib.Omega.{arith}
use lib.ListN.{length}
use Rattle.figures.proofs.Going.{filling_start, log_within, filling_turn, filling_end}
use Rattle.figures.proofs.Laws.{counts_begun, capped_row, length_row}
use Rattle.figures.proofs.fill.Goals as goal

pub loop-i-init : goal.loop-i-init
loop-i-init c = filling_start c.requires.0 (counts_begun c.default-totals.ensures)

pub overflow_add-end : goal.overflow_add-end
overflow_add-end c = omega (arith, log_within c.loop-i.invariant c.loop-i-test.true, c.well_formed)

pub slice_bounds-of_log-end : goal.slice_bounds-of_log-end
slice_bounds-of_log-end c = log_within c.loop-i.invariant c.loop-i-test.true

pub row_of-requires : goal.row_of-requires
row_of-requires c = capped_row _ c.of_log-one.ensures

pub put-requires : goal.put-requires
put-requires c = (
  omega (arith, c.loop-i.invariant.same, c.requires.1, c.loop-i-test.true),
  ap length c.row_of.ensures ∙ length_row _,
)

pub loop-i-preserved : goal.loop-i-preserved
loop-i-preserved c = filling_turn c.loop-i.invariant c.loop-i-test.true refl
    c.of_log-one.ensures c.plus-totals.ensures
    c.row_of.ensures c.put.ensures c.put.auto.rows

pub shape_of-rows : goal.shape_of-rows
shape_of-rows c = c.loop-i.invariant.same

pub returns : goal.returns
returns c = filling_end c.loop-i.invariant c.loop-i-test.false
