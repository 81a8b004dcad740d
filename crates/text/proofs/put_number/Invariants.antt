-- `text::put_number` meets its contract. The loop stores the digits from the last one on; the measure is what is left of the number.
use Rattle.text.proofs.Laws.{Digits}
use Rattle.text.proofs.put_number.Given as goal

abbrev pub invariant-loop-left : goal.invariant-loop-left
invariant-loop-left l = Digits l.n l.digits l.first l.left

abbrev pub decreases-loop-left : goal.decreases-loop-left
decreases-loop-left l = l.left
