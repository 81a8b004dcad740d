-- `rimesatchel::boxes::rime_send` meets its contract.
-- Assumes nothing.
use Rattle.rimesatchel.proofs.Leaves.{sent_refused, sent_taken}
use Rattle.rimesatchel.proofs.boxes.rime_send.Goals as goal

pub returns-then-refusal-ne0 : goal.returns-then-refusal-ne0
returns-then-refusal-ne0 c = let a = c.args in
    sent_refused a.state.now a.indication a.samples.now a.ancillary.now a.cell.now
    c.sender_of.ensures c.send-sent.ensures c.if-refusal-ne0.true

pub returns : goal.returns
returns c = let a = c.args in
    sent_taken a.state.now a.indication a.samples.now a.ancillary.now a.cell.now
    c.sender_of.ensures
    c.send-sent.ensures c.if-refusal-ne0.false c.sender_octets.ensures
