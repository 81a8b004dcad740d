-- `table::lines::names_line` meets its contract.
-- Assumes nothing.
use Rattle.table.proofs.Laws.{prints}
use Rattle.table.proofs.lines.names_line.Goals as goal

pub returns : goal.returns
returns c = prints c.from_start-start.ensures c.put_all.ensures
