-- `figures::told::begins_with` meets its contract: bit by bit.
use Prim.Native.Nat.{◌-◌}
use Rattle.figures.proofs.Turns.{Alike}
use Rattle.figures.proofs.told.begins_with.Given as goal

abbrev pub invariant-loop-slot : goal.invariant-loop-slot
invariant-loop-slot l = Alike l.format l.cell l.sequence l.slot

abbrev pub decreases-loop-slot : goal.decreases-loop-slot
decreases-loop-slot l = 8 - l.slot
