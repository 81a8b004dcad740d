-- `figures::take` meets its contract. The loop goes along the piece, past a stretch of records or by a step; the measure is what is
use Prim.Native.Nat.{◌-◌}
use lib.ListN.{length}
use Rattle.figures.proofs.Walks.{Going}
use Rattle.figures.proofs.take.Given as goal

abbrev pub invariant-loop-place : goal.invariant-loop-place
invariant-loop-place l = Going (record { standing = l.initial.standing; noted = l.initial.noted }) l.initial.held l.piece l.standing l.noted l.held l.place

abbrev pub decreases-loop-place : goal.decreases-loop-place
decreases-loop-place l = length l.piece - l.place
