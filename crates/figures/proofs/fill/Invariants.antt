-- `figures::fill` meets its contract. The loop goes along the logs.
use Rattle.figures.proofs.Going.{Filling}
use Rattle.figures.proofs.fill.Given as goal

abbrev pub invariant-loop-i : goal.invariant-loop-i
invariant-loop-i l = Filling l.octets l.lengths l.initial.rows l.totals l.rows l.at l.i
