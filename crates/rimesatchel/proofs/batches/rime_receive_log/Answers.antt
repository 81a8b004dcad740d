-- `rimesatchel::batches::rime_receive_log` meets its contract: it says what `hearing::receiving::receive` says.
-- Assumes nothing.
use Rattle.rimesatchel.proofs.BatchesLaws.{batch_refused, batch_taken}
use Rattle.rimesatchel.proofs.batches.rime_receive_log.Goals as goal

pub returns-then-refusal-ne0 : goal.returns-then-refusal-ne0
returns-then-refusal-ne0 c = let a = c.args in
    batch_refused a.state.now a.log.now a.place a.samples.now a.ancillary.now a.marks.now
    c.receiver_of.ensures c.receive-batch.ensures c.if-refusal-ne0.true

pub returns : goal.returns
returns c = let a = c.args in
    batch_taken a.state.now a.log.now a.place a.samples.now a.ancillary.now a.marks.now
    c.receiver_of.ensures c.receive-batch.ensures c.if-refusal-ne0.false c.receiver_octets.ensures
