-- `rimesatchel::boxes::rime_receive` meets its contract.
-- Assumes nothing.
use Rattle.rimesatchel.proofs.Leaves.{received_refused, received_taken}
use Rattle.rimesatchel.proofs.boxes.rime_receive.Goals as goal

pub returns-then-refusal-ne0 : goal.returns-then-refusal-ne0
returns-then-refusal-ne0 c = let a = c.args in
    received_refused a.state.now a.cell.now a.indication a.samples.now a.ancillary.now a.marks.now
    c.receiver_of.ensures
    c.receive-received.ensures
    c.yes_no-told.ensures c.if-refusal-ne0.true

pub returns : goal.returns
returns c = let a = c.args in
    received_taken a.state.now a.cell.now a.indication a.samples.now a.ancillary.now a.marks.now
    c.receiver_of.ensures
    c.receive-received.ensures
    c.yes_no-told.ensures c.if-refusal-ne0.false c.receiver_octets.ensures
