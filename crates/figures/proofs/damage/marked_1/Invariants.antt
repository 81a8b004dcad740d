-- `figures::damage::marked_1` meets its contract: slot by slot.
use Prim.Native.Nat.{◌-◌}
use Rattle.figures.proofs.Slots.{Looked}
use Rattle.figures.proofs.damage.marked_1.Given as goal

abbrev pub invariant-loop-slot : goal.invariant-loop-slot
invariant-loop-slot l = Looked l.format l.cell l.used l.count l.slot

abbrev pub decreases-loop-slot : goal.decreases-loop-slot
decreases-loop-slot l = l.used - l.slot
