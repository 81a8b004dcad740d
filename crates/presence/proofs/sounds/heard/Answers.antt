-- `presence::sounds::heard` meets its contract: a law for each return.
-- Assumes nothing.
use Rattle.std.proofs.Common.{ne_eqb}
use Rattle.presence.proofs.Said.{refused_says, taken_says}
use Rattle.presence.proofs.sounds.heard.Goals as goal

pub returns-then-answer-eq0 : goal.returns-then-answer-eq0
returns-then-answer-eq0 c = taken_says _ _ _ c.judged-answer.ensures c.if-answer-eq0.true c.sounds.ensures

pub returns-else-answer-eq0 : goal.returns-else-answer-eq0
returns-else-answer-eq0 c = rw (ne_eqb _ 0 c.if-answer-eq0.false) (refused_says _ _ _ c.judged-answer.ensures c.if-answer-eq0.false)
