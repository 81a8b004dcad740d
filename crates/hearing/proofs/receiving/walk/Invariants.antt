-- `hearing::receiving::walk` meets its contract.
use mathlib.Core.Path.{◌≡◌}
use Prim.Native.Nat.{◌-◌}
use lib.ListN.{length}
use Rattle.hearing.proofs.Stands.{Stood}
use Rattle.hearing.proofs.receiving.walk.Given as goal

abbrev pub invariant-loop-record : goal.invariant-loop-record
invariant-loop-record l = Stood l.initial.b.state l.used l.log l.place l.initial.samples l.initial.ancillary l.initial.marks l.b l.samples l.ancillary l.marks × (l.b.stop ≡ 0)

abbrev pub decreases-loop-record : goal.decreases-loop-record
decreases-loop-record l = length l.log - l.b.next
