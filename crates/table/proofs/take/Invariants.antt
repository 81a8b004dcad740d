-- `table::take` meets its contract. The loop goes along the piece; the measure is what is left of it.
use Rattle.std.proofs.Common.{◌-◌, length}
use Rattle.table.proofs.Taken.{Going}
use Rattle.table.proofs.take.Given as goal

abbrev pub invariant-loop-place : goal.invariant-loop-place
invariant-loop-place l =
    Going (record { sheet = l.initial.going; held = l.initial.held; rows = l.initial.rows; kept = l.initial.kept }) l.piece
    (record { sheet = l.going; held = l.held; rows = l.rows; kept = l.kept }) l.place

abbrev pub decreases-loop-place : goal.decreases-loop-place
decreases-loop-place l = length l.piece - l.place
