-- `listing::parts::end_lines` meets its contract.
-- Assumes nothing.
use Rattle.text.proofs.Laws.{puts_then, puts_same}
use Rattle.listing.proofs.Texts.{end_plain, end_broken}
use Rattle.listing.proofs.parts.end_lines.Goals as goal

pub returns-then-refusal-eq0 : goal.returns-then-refusal-eq0
returns-then-refusal-eq0 c = puts_same (end_plain c.args.tally c.args.refusal c.if-refusal-eq0.true)
    c.end_line.ensures

pub returns : goal.returns
returns c = puts_same (end_broken c.args.tally c.args.refusal c.if-refusal-eq0.false)
    (puts_then c.broken_line-past.ensures c.end_line-2.ensures)
