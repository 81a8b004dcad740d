-- `management::equipment::answered` meets its contract: each way out by the message type that it goes by.
-- Assumes nothing.
use mathlib.Core.Path.{◌≡◌, refl, sym, ◌∙◌}
use borrow.Author.Tests.{eqb-true, eqb-false}
use lib.ListN.{length}
use Rattle.runs.specs.Runs.{over}
use Rattle.management.proofs.Requests.{no_octets, enquiry, connection, disconnection, not_recognised}
use Rattle.management.proofs.equipment.answered.Goals as goal
use Rattle.management.proofs.equipment.answered.Goals.{Else-is_empty}

some : (c : Else-is_empty) → length c.args.message.now ≡ 0 → ⊥
some c = eqb-false _ 0 (sym c.is_empty.ensures ∙ c.if-is_empty.false)

pub returns-then-is_empty : goal.returns-then-is_empty
unfolding over
returns-then-is_empty c = rw (no_octets _ _ _ (eqb-true _ 0 (sym c.is_empty.ensures ∙ c.if-is_empty.true)))
    (record { refused = refl; leaves = refl; writes = refl; reports = refl })

pub returns-then-message_type-eq1 : goal.returns-then-message_type-eq1
returns-then-message_type-eq1 c = rw
    (enquiry _ _ _ (some (goal.at.returns-then-message_type-eq1 c).Else-is_empty) c.if-message_type-eq1.true c.asked_at.ensures c.octet.ensures)
    c.reply.ensures

pub returns-then-message_type-eq2 : goal.returns-then-message_type-eq2
returns-then-message_type-eq2 c = rw
    (connection _ _ _ (some (goal.at.returns-then-message_type-eq2 c).Else-is_empty) c.if-message_type-eq2.true c.asked_at-asked.ensures c.octet-2.ensures
    c.octet-3.ensures)
    c.connect.ensures

pub returns-then-message_type-eq3 : goal.returns-then-message_type-eq3
returns-then-message_type-eq3 c = rw
    (disconnection _ _ _ (some (goal.at.returns-then-message_type-eq3 c).Else-is_empty) c.if-message_type-eq3.true c.asked_at-asked.ensures c.octet-2.ensures
    c.octet-3.ensures)
    c.disconnect.ensures

pub returns : goal.returns
unfolding over
returns c = rw
    (not_recognised _ _ _ (some (goal.at.returns c).Else-is_empty) c.if-message_type-eq1.false c.if-message_type-eq2.false c.if-message_type-eq3.false)
    (record { refused = refl; leaves = refl; writes = refl; reports = refl })
