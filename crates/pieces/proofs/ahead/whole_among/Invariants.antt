-- `pieces::ahead::whole_among` meets its contract. The loop goes from record to record.
use Rattle.pieces.proofs.Stretches.{Passing}
use Rattle.pieces.proofs.ahead.whole_among.Given as goal

abbrev pub invariant-loop-n : goal.invariant-loop-n
invariant-loop-n l = Passing l.piece l.place l.most l.n
