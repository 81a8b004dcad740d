-- `management::controller::rime_controller` meets its contract.
-- Assumes nothing.
use mathlib.Core.Path.{sym, ◌∙◌}
use borrow.Author.Tests.{eqb-true, eqb-false}
use Rattle.management.proofs.Taken.{takes_nothing, takes_other, takes_reserved, takes_status}
use Rattle.management.proofs.controller.rime_controller.Goals as goal
use Rattle.management.proofs.controller.rime_controller.Goals.{else-octets-via-then-octets+else-octets-le1, else-octets-via-else-octets}

pub returns-then-is_empty : goal.returns-then-is_empty
returns-then-is_empty c = rw c.into.ensures (takes_nothing _ _ (eqb-true _ 0 (sym c.is_empty.ensures ∙ c.if-is_empty.true)))

pub returns-then-octets-le1 : goal.returns-then-octets-le1
returns-then-octets-le1 c = takes_status _ _ (eqb-false _ 0 (sym c.is_empty.ensures ∙ c.if-is_empty.false))
    c.brought-octets.ensures c.if-octets.true c.if-octets-le1.true
    c.told_by.ensures c.taken_to-to.ensures.0 c.note.ensures

pub returns-else-octets : goal.returns-else-octets
returns-else-octets c = let some = eqb-false _ 0 (sym c.is_empty.ensures ∙ c.if-is_empty.false) in
    elim c.else-octets.branch [
      | else-octets-via-then-octets+else-octets-le1 w ↦ takes_reserved _ _ some c.brought-octets.ensures w.if-octets-le1.false
      | else-octets-via-else-octets w ↦ takes_other _ _ some c.brought-octets.ensures w.if-octets.false
    ]
