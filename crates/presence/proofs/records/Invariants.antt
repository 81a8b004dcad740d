-- The loop of `presence::records`: none before this record, and the rest from here. The measure is what is left of the log.
use Rattle.std.proofs.Common.{◌-◌, length}
use Rattle.cell_log.specs.Records.{record_at}
use Rattle.presence.proofs.Walks.{Along}
use Rattle.presence.proofs.records.Given as goal

abbrev pub invariant-loop-record : goal.invariant-loop-record
invariant-loop-record l =
    Along l.log l.initial.state l.initial.place l.initial.number l.state l.place l.number (record_at l.log l.place)

abbrev pub decreases-loop-record : goal.decreases-loop-record
decreases-loop-record l = length l.log - l.place
