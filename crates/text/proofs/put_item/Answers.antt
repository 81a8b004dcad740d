-- `text::put_item` meets its contract.
-- Assumes nothing.
use Rattle.text.proofs.Laws.{puts_then}
use Rattle.text.proofs.put_item.Goals as goal

pub returns : goal.returns
returns c = puts_then c.put_all-past.ensures c.put_number.ensures
