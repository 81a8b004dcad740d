-- `sender::send` meets its contract.
-- Assumes nothing.
use Rattle.sender.proofs.Laws.{Call, sends_refused, number_lt, sends_taken}
use Rattle.sender.proofs.send.Goals as goal
use Rattle.sender.proofs.send.Goals.{After-write-refusal, Start}

abbrev call : Start → Call
call s =
    record {
      state = s.args.state;
      indication = s.args.indication;
      samples = s.args.samples.now;
      ancillary = s.args.ancillary.now;
    }

abbrev from : After-write-refusal → Start
from c = (goal.at.After-write-refusal c).Start

pub returns-then-refusal-ne0 : goal.returns-then-refusal-ne0
returns-then-refusal-ne0 c = sends_refused (call (from (goal.at.returns-then-refusal-ne0 c).After-write-refusal)) (from (goal.at.returns-then-refusal-ne0 c).After-write-refusal).args.cell.now c.write-refusal.ensures c.if-refusal-ne0.true

pub after-requires : goal.after-requires
after-requires c = let s = from (goal.at.after-requires c).After-write-refusal in
    (number_lt (call s) s.args.cell.now c.write-refusal.ensures c.if-refusal-ne0.false, c.second_now-second.ensures)

pub returns : goal.returns
returns c = sends_taken (call (from (goal.at.returns c).After-write-refusal)) (from (goal.at.returns c).After-write-refusal).args.cell.now c.write-refusal.ensures c.if-refusal-ne0.false c.after.ensures
