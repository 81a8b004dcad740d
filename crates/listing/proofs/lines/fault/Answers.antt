-- `listing::lines::fault` meets its contract: its parts are put one after the other.
-- Assumes nothing.
use Rattle.std.proofs.Common.{sym, append_assoc}
use Rattle.text.specs.Text.{item}
use Rattle.text.specs.Words.{words}
use Rattle.text.proofs.Laws.{puts_same, puts_then}
use Rattle.listing.proofs.lines.fault.Goals as goal

pub returns : goal.returns
returns c =
    puts_same
    (sym (append_assoc (item (words "") c.args.index) (item c.args.between.now c.args.refusal) (words "\n")))
    (puts_then c.put_item-past_index.ensures c.put_line.ensures)
