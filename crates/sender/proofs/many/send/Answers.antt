-- `sender::many::send` meets its contract.
-- Assumes nothing.
use Rattle.std.proofs.Common.{◌≡◌, Bool, cond, sym, refl, ap, ◌∙◌, suc-ne-zero}
use Rattle.refusals.proofs.Laws.{number_not_0}
use Rattle.sender.specs.Sender.{state_refusal}
use Rattle.sender.proofs.Batches.{batch_refused, state_refuses, lengths_refuse}
use Rattle.sender.proofs.Laws.{by_settings, by_numbers}
use Rattle.sender.proofs.many.send.Goals as goal
use Rattle.sender.proofs.many.send.Goals.{After-numbers, Else-numbers, Start}

-- check 4, where the settings are right
numbers_say : (q : After-numbers) → cond q.numbers.result 4 0 ≡ state_refusal q.args.state
numbers_say q = by_numbers q.args.state q.in-Ok.ensures refl q.numbers.ensures

none : (q : Else-numbers) → state_refusal q.args.state ≡ 0
none q = sym (numbers_say (goal.at.Else-numbers q).After-numbers) ∙ ap (λ (b : Bool). cond b 4 0) q.if-numbers.false

pub returns-in-Err : goal.returns-in-Err
returns-in-Err c = let a = c.args in
    let some = number_not_0 c.in-Err.refusal in
    batch_refused a.indications a.state a.samples.now a.ancillary.now a.log.now a.place some
    (state_refuses a.indications a.state a.samples.now a.ancillary.now a.log.now a.place some
    (by_settings a.state c.in-Err.ensures some))
    (rw c.into.ensures at c.refused.ensures)

pub returns-then-numbers : goal.returns-then-numbers
returns-then-numbers c = let a = c.args in
    batch_refused a.indications a.state a.samples.now a.ancillary.now a.log.now a.place (suc-ne-zero 3)
    (state_refuses a.indications a.state a.samples.now a.ancillary.now a.log.now a.place (suc-ne-zero 3)
    (sym (ap (λ (b : Bool). cond b 4 0) c.if-numbers.true) ∙ numbers_say (goal.at.returns-then-numbers c).After-numbers))
    c.refused-then-numbers.ensures

pub returns-then-ancillary-samples : goal.returns-then-ancillary-samples
returns-then-ancillary-samples c = let a = c.args in
    batch_refused a.indications a.state a.samples.now a.ancillary.now a.log.now a.place (suc-ne-zero 4)
    (lengths_refuse a.indications a.state a.samples.now a.ancillary.now a.log.now a.place (none (goal.at.returns-then-ancillary-samples c).Else-numbers) c.if-ancillary-samples.true)
    c.refused-then-ancillary-samples.ensures

pub walk-requires : goal.walk-requires
walk-requires c = (c.in-Ok.ensures, none (goal.at.walk-requires c).Else-numbers, c.if-ancillary-samples.false)
