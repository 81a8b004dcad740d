-- `salvaging::lines::end_line` meets its contract: its parts are put one after the other.
-- Assumes nothing.
use Rattle.text.proofs.Laws.{puts_then}
use Rattle.salvaging.proofs.lines.end_line.Goals as goal

pub returns : goal.returns
returns c = puts_then
    (puts_then (puts_then c.put_item-past_kept.ensures c.put_item-past_left.ensures) c.put_item-past_cut.ensures)
    c.put_all.ensures
