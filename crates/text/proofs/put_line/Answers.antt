-- `text::put_line` meets its contract.
-- Assumes nothing.
use Rattle.text.proofs.Laws.{puts_then}
use Rattle.text.proofs.put_line.Goals as goal

pub returns : goal.returns
returns c = puts_then c.put_item-past.ensures c.put_all.ensures
