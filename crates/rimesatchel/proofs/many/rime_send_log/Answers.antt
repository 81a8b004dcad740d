-- `rimesatchel::many::rime_send_log` meets its contract: it says what `sender::many::send` says.
-- Assumes nothing.
use Rattle.rimesatchel.proofs.ManyLaws.{many_refused, many_sent}
use Rattle.rimesatchel.proofs.many.rime_send_log.Goals as goal

pub returns-then-refusal-ne0 : goal.returns-then-refusal-ne0
returns-then-refusal-ne0 c = let a = c.args in
    many_refused a.state.now a.indications a.samples.now a.ancillary.now a.log.now a.place
    c.sender_of.ensures c.send-sent.ensures c.if-refusal-ne0.true

pub returns : goal.returns
returns c = let a = c.args in
    many_sent a.state.now a.indications a.samples.now a.ancillary.now a.log.now a.place
    c.sender_of.ensures c.send-sent.ensures c.if-refusal-ne0.false c.sender_octets.ensures
