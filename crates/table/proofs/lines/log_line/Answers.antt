-- `table::lines::log_line` meets its contract.
-- Assumes nothing.
use Rattle.std.proofs.Common.{◌*◌}
use native.Mathlib.Nat.{add-sub_cancel_left}
use Rattle.table.proofs.Laws.{without_row, row_there}
use Rattle.table.proofs.lines.log_line.Goals as goal

pub returns-then-rows-log : goal.returns-then-rows-log
returns-then-rows-log c = without_row _ _ c.from_start-start.ensures c.put_number-past.ensures c.if-rows-log.true
    c.put_row.ensures

pub returns : goal.returns
returns c = row_there _ _ c.from_start-start.ensures c.put_number-past.ensures c.if-rows-log.false
    (add-sub_cancel_left (10 * c.args.log) 10)
    c.put_row-2.ensures
