-- The loop of `glance::number_in`: what is read so far.
use Rattle.glance.proofs.Laws.{Reads}
use Rattle.glance.proofs.number_in.Given as goal

abbrev pub invariant-loop-i : goal.invariant-loop-i
invariant-loop-i l = Reads l.cell l.at l.width l.number l.i
