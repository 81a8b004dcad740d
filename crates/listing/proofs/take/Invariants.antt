-- The loop goes along the piece; the measure is what is left of it.
use Rattle.std.proofs.Common.{◌-◌, length}
use Rattle.listing.proofs.Texts.{Going}
use Rattle.listing.proofs.take.Given as goal

abbrev pub invariant-loop-place : goal.invariant-loop-place
invariant-loop-place l = Going (record { standing = l.initial.standing; tally = l.initial.tally }) l.initial.held l.piece l.initial.run l.initial.past l.standing l.tally l.held l.run l.past l.place

abbrev pub decreases-loop-place : goal.decreases-loop-place
decreases-loop-place l = length l.piece - l.place
