-- `presence::parts::past_front` meets its contract.
-- Assumes nothing.
use Rattle.std.proofs.Common.{refl, ◌∙◌}
use Rattle.reading.specs.Records.{front_of}
use Rattle.presence.specs.Presence.{said_of}
use Rattle.presence.proofs.Going.{past_found, past_yes, past_no}
use Rattle.presence.proofs.parts.past_front.Goals as goal

pub returns-then-sought : goal.returns-then-sought
returns-then-sought c =
    past_found _ _ c.if-sought.true

pub returns-then-said : goal.returns-then-said
unfolding front_of
returns-then-said c =
    past_yes _ _ c.if-sought.false
    (c.heard-said.ensures
    ∙ (λ i. said_of c.args.sought.state (c.read_cell.ensures.0 i) (c.read_indication.ensures i)))
    c.if-said.true

pub returns : goal.returns
unfolding front_of
returns c =
    past_no _ _ c.if-sought.false
    (c.heard-said.ensures
    ∙ (λ i. said_of c.args.sought.state (c.read_cell.ensures.0 i) (c.read_indication.ensures i)))
    c.if-said.false refl
