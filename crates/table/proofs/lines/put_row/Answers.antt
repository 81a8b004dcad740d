-- `table::lines::put_row` meets its contract. The loop: the numbers before this one are put.
-- Assumes nothing.
use Rattle.std.proofs.Common.{refl, ◌∙◌}
use Rattle.text.proofs.Laws.{puts_none}
use Rattle.table.specs.Table.{cells_of}
use Rattle.table.proofs.Laws.{cells_turn, cells_end}
use Rattle.table.proofs.lines.put_row.Goals as goal

pub loop-number-init : goal.loop-number-init
unfolding cells_of
loop-number-init c = (puts_none _ _, refl)

pub loop-number-preserved : goal.loop-number-preserved
loop-number-preserved c = (
  cells_turn c.args.row.now c.loop-number.number-index c.loop-number-test.true c.loop-number.invariant.0 c.put_item-past.ensures,
  c.put_item-past.auto.run ∙ c.loop-number.invariant.1,
)

pub returns : goal.returns
returns c = cells_end c.args.row.now c.loop-number.number-index c.loop-number-test.false c.loop-number.invariant.0 c.put_all.ensures
