-- `sender::judge::state_refusal` meets its contract.
-- Assumes nothing.
use Rattle.std.proofs.Common.{◌≡◌, Bool, cond, sym, refl, ap, ◌∙◌}
use Rattle.refusals.proofs.Laws.{number_not_0}
use Rattle.sender.specs.declared.Sender.{Sender}
use Rattle.sender.specs.Sender.{open_state, state_refusal}
use Rattle.sender.proofs.Laws.{by_settings, by_numbers}
use Rattle.sender.proofs.judge.state_refusal.Goals as goal
use Rattle.sender.proofs.judge.state_refusal.Goals.{After-numbers, Start}

-- the state that the opening asks for
abbrev asked : Start → Sender
asked s = let a = s.args in open_state a.octet a.channels a.order a.number a.wanted a.second

abbrev from : After-numbers → Start
from c = (goal.at.After-numbers c).Start

by_4 : (c : After-numbers) → cond c.numbers.result 4 0 ≡ state_refusal (asked (from c))
by_4 c = by_numbers (asked (from c)) c.in-Ok.ensures refl c.numbers.ensures

pub returns-in-Err : goal.returns-in-Err
returns-in-Err c = c.into.ensures ∙ by_settings (asked (goal.at.returns-in-Err c).Start) c.in-Err.ensures (number_not_0 c.in-Err.refusal)

pub returns-then-numbers : goal.returns-then-numbers
returns-then-numbers c = ap (λ (b : Bool). cond b 4 0) (sym c.if-numbers.true) ∙ by_4 (goal.at.returns-then-numbers c).After-numbers

pub returns : goal.returns
returns c = ap (λ (b : Bool). cond b 4 0) (sym c.if-numbers.false) ∙ by_4 (goal.at.returns c).After-numbers
