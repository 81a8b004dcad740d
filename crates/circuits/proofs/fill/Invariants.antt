-- The loop of `circuits::fill`: so many circuits are filled.
use Rattle.circuits.proofs.Laws.{Filling}
use Rattle.circuits.proofs.fill.Given as goal

abbrev pub invariant-loop-share : goal.invariant-loop-share
invariant-loop-share l = Filling l.slots l.channels l.initial.shares l.shares l.left l.share-index
