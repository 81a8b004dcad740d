-- The loop of `presence::take` goes along the piece; the measure is what is left of it.
use Rattle.std.proofs.Common.{◌-◌, length}
use Rattle.presence.proofs.Going.{Going}
use Rattle.presence.proofs.take.Given as goal

abbrev pub invariant-loop-place : goal.invariant-loop-place
invariant-loop-place l = Going l.initial.standing l.initial.sought l.initial.held l.piece l.standing l.sought l.held l.place

abbrev pub decreases-loop-place : goal.decreases-loop-place
decreases-loop-place l = length l.piece - l.place
