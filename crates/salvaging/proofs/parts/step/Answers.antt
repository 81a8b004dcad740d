-- `salvaging::parts::step` meets its contract: a law for each kind of what was found.
-- Assumes nothing.
use Rattle.std.proofs.Common.{sym, ◌∙◌}
use Rattle.pieces.proofs.Parts.{parts_record, parts_header, parts_fault, parts_none}
use Rattle.salvaging.proofs.Texts.{tells, tells_none, one_header, one_fault}
use Rattle.salvaging.proofs.parts.step.Goals as goal

pub returns-in-Some : goal.returns-in-Some
returns-in-Some c = tells _ (parts_record _ _ _ _ c.requires c.in-Some.ensures) c.record_step.ensures

pub returns-in-Header : goal.returns-in-Header
returns-in-Header c =
    tells _ (parts_header _ _ _ _ c.in-Header.is) (one_header _ c.header_of-header.ensures c.put_header.ensures c.fresh.ensures)

pub returns-in-Fault : goal.returns-in-Fault
returns-in-Fault c = tells _ (parts_fault _ _ _ _ c.in-Fault.is) (one_fault _ _ _ c.past_fault.ensures)

pub returns-in_default-what : goal.returns-in_default-what
returns-in_default-what c =
    tells_none _ (parts_none _ _ _ _ (sym c.in_default.is ∙ c.octets_found.ensures) c.in_default-what.not-Header c.in_default-what.not-Fault)
