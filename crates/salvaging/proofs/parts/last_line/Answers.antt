-- `salvaging::parts::last_line` meets its contract.
-- Assumes nothing.
use Rattle.text.proofs.Laws.{puts_same}
use Rattle.salvaging.proofs.Texts.{last_refused_lem, last_counts}
use Rattle.salvaging.proofs.parts.last_line.Goals as goal

pub returns-then-tally-ne0 : goal.returns-then-tally-ne0
returns-then-tally-ne0 c = puts_same (last_refused_lem c.args.octets c.args.tally c.if-tally-ne0.true)
    c.log_refused_line.ensures

pub returns : goal.returns
returns c = puts_same (last_counts c.args.octets c.args.tally c.if-tally-ne0.false
    c.saturating_sub-cut.ensures)
    c.end_line.ensures
