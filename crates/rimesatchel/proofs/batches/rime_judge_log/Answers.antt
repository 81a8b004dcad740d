-- `rimesatchel::batches::rime_judge_log` meets its contract: it says what `hearing::judging::judge` says.
-- Assumes nothing.
use Rattle.rimesatchel.proofs.BatchesLaws.{judged_refused, judged_taken}
use Rattle.rimesatchel.proofs.batches.rime_judge_log.Goals as goal

pub returns-then-refusal-ne0 : goal.returns-then-refusal-ne0
returns-then-refusal-ne0 c = let a = c.args in
    judged_refused a.state.now a.log.now a.place a.reports.now c.receiver_of.ensures c.judge-judged.ensures
    c.if-refusal-ne0.true

pub returns : goal.returns
returns c = let a = c.args in
    judged_taken a.state.now a.log.now a.place a.reports.now c.receiver_of.ensures c.judge-judged.ensures
    c.if-refusal-ne0.false c.receiver_octets.ensures
