-- `listing::lines::three` meets its contract: its parts are put one after the other.
-- Assumes nothing.
use Rattle.text.proofs.Laws.{puts_then}
use Rattle.listing.proofs.lines.three.Goals as goal

pub returns : goal.returns
returns c = puts_then (puts_then (puts_then c.put_item-past_first.ensures
    c.put_item-past_second.ensures)
    c.put_item-past_third.ensures)
    c.put_all.ensures
