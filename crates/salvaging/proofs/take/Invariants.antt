-- The loop goes along the piece; the measure is what is left of it.
use Rattle.std.proofs.Common.{◌-◌, length}
use Rattle.salvaging.proofs.Going.{Going}
use Rattle.salvaging.proofs.take.Given as goal

abbrev pub invariant-loop-place : goal.invariant-loop-place
invariant-loop-place l = Going l.initial.standing l.initial.tally l.initial.held l.piece l.initial.out l.initial.notes l.standing l.tally l.held l.out l.notes l.saved l.noted l.place

abbrev pub decreases-loop-place : goal.decreases-loop-place
decreases-loop-place l = length l.piece - l.place
