-- `saving::write` meets its contract. The loop goes along the records; the measure is what is left of the log.
use Prim.Native.Nat.{◌-◌}
use lib.ListN.{length}
use Rattle.saving.specs.Code.{Room}
use Rattle.cell_log.specs.Records.{record_at}
use Rattle.saving.proofs.Walks.{Walking, Putting}
use Rattle.saving.proofs.write.Given as goal

abbrev pub invariant-loop-record : goal.invariant-loop-record
invariant-loop-record l = Room l.log l.initial.here.state (length l.initial.out) (length l.initial.list)
    × Walking l.log l.initial.here.state l.here (record_at l.log l.here.place)
    × Putting l.log l.initial.here.state l.initial.out l.initial.list l.here l.out l.list

abbrev pub decreases-loop-record : goal.decreases-loop-record
decreases-loop-record l = length l.log - l.here.place
