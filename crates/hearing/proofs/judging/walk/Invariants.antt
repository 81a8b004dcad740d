-- `hearing::judging::walk` meets its contract. The loop: so many records are judged.
use Rattle.cell_log.specs.Records.{record_at}
use Rattle.hearing.proofs.Walks.{Standing}
use Rattle.hearing.proofs.judging.walk.Given as goal

abbrev pub invariant-loop-records : goal.invariant-loop-records
invariant-loop-records l = Standing l.initial.now l.log l.place l.initial.reports l.now l.at l.records l.reports (record_at l.log l.at)
