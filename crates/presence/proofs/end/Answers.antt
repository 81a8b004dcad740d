-- `presence::end` meets its contract.
-- Assumes nothing.
use Rattle.presence.proofs.Going.{ends_in_header, ends_past_header}
use Rattle.presence.proofs.end.Goals as goal

pub returns-then-standing-eq0 : goal.returns-then-standing-eq0
returns-then-standing-eq0 c = ends_in_header c.args.search c.args.held c.end-refusal.ensures c.if-standing-eq0.true

pub returns-else-standing-eq0 : goal.returns-else-standing-eq0
returns-else-standing-eq0 c = ends_past_header c.args.search c.args.held c.if-standing-eq0.false
