-- `table::lines::refused_line` meets its contract.
-- Assumes nothing.
use Rattle.text.proofs.Laws.{puts_then}
use Rattle.table.proofs.Laws.{prints}
use Rattle.table.proofs.lines.refused_line.Goals as goal

pub returns : goal.returns
returns c = prints c.from_start-start.ensures
    (puts_then c.put_item-past.ensures c.put_all.ensures)
