-- `listing::lines::sound_line` meets its contract: its parts are put one after the other.
-- Assumes nothing.
use Rattle.text.proofs.Laws.{puts_then}
use Rattle.listing.proofs.lines.sound_line.Goals as goal

pub returns : goal.returns
returns c = puts_then (puts_then (puts_then c.put_number-past_index.ensures
    (puts_then c.put_all-past_sound.ensures c.put_item-past_missing.ensures))
    c.put_item-past_number.ensures)
    c.put_all.ensures
