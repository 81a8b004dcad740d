-- `table::lines::all_line` meets its contract.
-- Assumes nothing.
use Rattle.text.proofs.Laws.{puts_then}
use Rattle.table.proofs.Laws.{prints}
use Rattle.table.proofs.lines.all_line.Goals as goal

pub returns : goal.returns
returns c = prints c.from_start-start.ensures (puts_then c.put_all-past.ensures c.put_row.ensures)
