-- `pieces::ahead::whole_among` meets its contract. The loop goes from record to record.
-- Assumes nothing.
use Rattle.std.proofs.Common.{arith}
use Rattle.pieces.proofs.Stretches.{passing_start, passing_turn, passing_stop, passing_end}
use Rattle.pieces.proofs.ahead.whole_among.Goals as goal

pub loop-n-init : goal.loop-n-init
loop-n-init c = passing_start c.requires

pub returns-then-piece-place-gt1 : goal.returns-then-piece-place-gt1
returns-then-piece-place-gt1 c = (passing_stop c.requires c.loop-n.invariant c.if-piece-place-gt1.true, c.loop-n.invariant.few)

pub loop-n-preserved : goal.loop-n-preserved
loop-n-preserved c = passing_turn c.requires c.loop-n.invariant (omega arith) c.if-piece-place-gt1.false

pub returns : goal.returns
returns c = (passing_end c.requires c.loop-n.invariant (omega arith), omega arith)
