-- `sender::opened` meets its contract.
-- Assumes nothing.
use Rattle.std.proofs.Common.{sym, ◌∙◌, arith}
use Rattle.formats.proofs.Laws.{listed_octet, slots_listed}
use Rattle.sender.specs.Sender.{open_state}
use Rattle.sender.proofs.Laws.{StatePasses, state_passes, opens_refused, opens}
use Rattle.sender.proofs.opened.Goals as goal
use Rattle.sender.proofs.opened.Goals.{After-state_refusal-refusal, Else-refusal-ne0, Start}

abbrev from : After-state_refusal-refusal → Start
from c = (goal.at.After-state_refusal-refusal c).Start

passed : (c : Else-refusal-ne0)
    → let a = (from (goal.at.Else-refusal-ne0 c).After-state_refusal-refusal).args in StatePasses a.format a.channels a.order a.number a.second
passed c =
    let a = (from (goal.at.Else-refusal-ne0 c).After-state_refusal-refusal).args in
    state_passes (open_state a.format a.channels a.order a.number a.wanted a.second)
    (sym c.state_refusal-refusal.ensures ∙ c.if-refusal-ne0.false)

pub returns-then-refusal-ne0 : goal.returns-then-refusal-ne0
returns-then-refusal-ne0 c = let a = (from (goal.at.returns-then-refusal-ne0 c).After-state_refusal-refusal).args in
    opens_refused a.format a.channels a.order a.number a.wanted a.second c.if-refusal-ne0.true
    c.state_refusal-refusal.ensures

pub overflow_cast-result : goal.overflow_cast-result
overflow_cast-result c = record { fits = listed_octet (from (goal.at.overflow_cast-result c).After-state_refusal-refusal).args.format (passed c).settles.listed }

pub overflow_cast-result-2 : goal.overflow_cast-result-2
overflow_cast-result-2 c = omega (arith, (passed c).settles.channels_to, slots_listed (from (goal.at.overflow_cast-result-2 c).After-state_refusal-refusal).args.format (passed c).settles.listed)

pub overflow_cast-result-3 : goal.overflow_cast-result-3
overflow_cast-result-3 c = omega (arith, (passed c).settles.order_to)

pub overflow_cast-result-4 : goal.overflow_cast-result-4
overflow_cast-result-4 c = omega (arith, (passed c).number_to)

pub overflow_cast-result-5 : goal.overflow_cast-result-5
overflow_cast-result-5 c = omega (arith, (passed c).second_to)

pub returns : goal.returns
returns c = let a = (from (goal.at.returns c).After-state_refusal-refusal).args in
    opens a.format a.channels a.order a.number a.wanted a.second
    (sym c.if-refusal-ne0.false ∙ c.state_refusal-refusal.ensures)
