-- `sender::judge::united` meets its contract.
use Rattle.sender.proofs.Laws.{United}
use Rattle.sender.proofs.judge.united.Given as goal

abbrev pub invariant-loop-i : goal.invariant-loop-i
invariant-loop-i l = United l.samples l.all l.i × United l.ancillary l.few l.i
