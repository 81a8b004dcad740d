-- `listing::end` meets its contract.
-- Assumes nothing.
use Rattle.listing.proofs.Texts.{ends_refused, ends_nothing, ends_lines}
use Rattle.listing.proofs.end.Goals as goal

pub returns-then-standing-eq0 : goal.returns-then-standing-eq0
returns-then-standing-eq0 c = ends_refused {l = c.args.listing} c.end-refusal.ensures c.if-standing-eq0.true
    c.log_refused_line.ensures

pub returns-then-standing-eq1 : goal.returns-then-standing-eq1
returns-then-standing-eq1 c = ends_lines {l = c.args.listing} c.end-refusal.ensures c.if-standing-eq0.false c.if-standing-eq1.true
    c.end_lines.ensures

pub returns-else-standing-eq1 : goal.returns-else-standing-eq1
returns-else-standing-eq1 c = ends_nothing {l = c.args.listing} c.if-standing-eq0.false c.if-standing-eq1.false
