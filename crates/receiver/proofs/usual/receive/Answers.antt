-- `receiver::usual::receive` meets its contract.
-- Assumes nothing.
use mathlib.Core.Path.{◌≡◌}
use Rattle.formats.specs.Settings.{settled_as, settings_of}
use Rattle.receiver.proofs.AllSlots.{usual_settles, usual_room, usual_fills}
use Rattle.receiver.proofs.Laws.{Call, judged_refused, cell_whole, roomy, judged_taken}
use Rattle.receiver.proofs.usual.receive.Goals as goal
use Rattle.receiver.proofs.usual.receive.Goals.{After-usual-set, Start}

-- the call
abbrev call : Start → Call
call s =
    record {
      state = s.args.state;
      cell = s.args.cell.now;
      indication = s.args.indication;
      samples = s.args.samples.now;
      ancillary = s.args.ancillary.now;
      marks = s.args.marks.now;
    }

settles : (u : After-usual-set) → settled_as u.usual-set.result ≡ settings_of u.args.state.format u.args.state.channels u.args.state.order
settles u = usual_settles u.args.state u.usual-set.ensures u.requires

pub answered-answer-requires : goal.answered-answer-requires
answered-answer-requires c = settles (goal.at.answered-answer-requires c).After-usual-set

pub returns-then-answer-ne0 : goal.returns-then-answer-ne0
returns-then-answer-ne0 c = judged_refused (call (goal.at.returns-then-answer-ne0 c).Start) c.answered-answer.ensures c.if-answer-ne0.true

pub write-requires : goal.write-requires
write-requires c = let at = goal.at.write-requires c in (
  cell_whole (call at.Start) c.answered-answer.ensures (settles at.After-usual-set) c.if-answer-ne0.false,
  usual_room c.args.state c.usual-set.ensures c.answered-answer.result.missing
      (roomy (call at.Start) c.answered-answer.ensures (settles at.After-usual-set) c.if-answer-ne0.false),
)

pub returns : goal.returns
returns c = let at = goal.at.returns c in
    judged_taken (call at.Start) c.answered-answer.ensures (settles at.After-usual-set) c.if-answer-ne0.false
    (usual_fills c.args.state c.usual-set.ensures c.args.cell.now c.answered-answer.result.missing c.write.ensures)
