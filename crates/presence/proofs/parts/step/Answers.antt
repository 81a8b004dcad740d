-- `presence::parts::step` meets its contract: a law for each kind of what was found.
-- Assumes nothing.
use Rattle.std.proofs.Common.{sym, ◌∙◌}
use Rattle.pieces.proofs.Parts.{parts_record, parts_header, parts_fault, parts_none}
use Rattle.presence.specs.Taking.{past_part}
use Rattle.presence.proofs.Going.{past_one, past_none}
use Rattle.presence.proofs.parts.step.Goals as goal

pub returns-in-Some : goal.returns-in-Some
unfolding past_part
returns-in-Some c = past_one _ (parts_record _ _ _ _ c.requires c.in-Some.ensures) c.past_front.ensures

pub returns-in-Header : goal.returns-in-Header
unfolding past_part
returns-in-Header c = past_one _ (parts_header _ _ _ _ c.in-Header.is) c.past_header.ensures

pub returns-in-Fault : goal.returns-in-Fault
returns-in-Fault c = past_one _ (parts_fault _ _ _ _ c.in-Fault.is) c.past_fault.ensures

pub returns-in_default-what : goal.returns-in_default-what
returns-in_default-what c =
    past_none _ (parts_none _ _ _ _ (sym c.in_default.is ∙ c.octets_found.ensures) c.in_default-what.not-Header c.in_default-what.not-Fault)
