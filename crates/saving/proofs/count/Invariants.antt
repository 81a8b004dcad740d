-- `saving::count` meets its contract. The loop goes along the records; the measure is what is left of the log.
use Prim.Native.Nat.{◌-◌}
use lib.ListN.{length}
use Rattle.cell_log.specs.Records.{record_at}
use Rattle.saving.proofs.Walks.{Walking}
use Rattle.saving.proofs.count.Given as goal

abbrev pub invariant-loop-record : goal.invariant-loop-record
invariant-loop-record l = Walking l.log l.initial.here.state l.here (record_at l.log l.here.place)

abbrev pub decreases-loop-record : goal.decreases-loop-record
decreases-loop-record l = length l.log - l.here.place
