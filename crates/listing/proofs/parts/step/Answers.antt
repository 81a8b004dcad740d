-- `listing::parts::step` meets its contract: a law for each kind of what was found.
-- Assumes nothing.
use Rattle.std.proofs.Common.{refl, sym, ap, ◌∙◌}
use Rattle.pieces.proofs.Parts.{parts_record, parts_header, parts_fault, parts_none}
use Rattle.cell_log.specs.Answers.{Header}
use Rattle.listing.specs.Lines.{format_line}
use Rattle.listing.specs.List.{line_of}
use Rattle.listing.specs.Taking.{part_text, part_tally, fresh_tally, after_of}
use Rattle.listing.proofs.Texts.{tells, tells_none, fault_counts}
use Rattle.listing.proofs.parts.step.Goals as goal

pub returns-in-Some : goal.returns-in-Some
unfolding part_text part_tally
returns-in-Some c =
    tells _ (parts_record _ _ _ _ c.requires c.in-Some.ensures)
    (ap (line_of c.args.tally.records) c.judged_front-got.ensures) c.record_line.ensures
    (c.after.ensures ∙ ap (after_of c.args.tally) c.judged_front-got.ensures)

pub returns-in-Header : goal.returns-in-Header
unfolding part_text part_tally
returns-in-Header c =
    tells _ (parts_header _ _ _ _ c.in-Header.is)
    (ap (λ (h : Header). format_line h.format h.channels h.order) c.header_of-header.ensures) c.format_line-past.ensures
    (c.fresh.ensures ∙ ap fresh_tally c.header_of-header.ensures)

pub returns-in-Fault : goal.returns-in-Fault
returns-in-Fault c = tells _ (parts_fault _ _ _ _ c.in-Fault.is) refl c.fault_lines.ensures (fault_counts _ _ _)

pub returns-in_default-what : goal.returns-in_default-what
returns-in_default-what c =
    tells_none _ _ _ (parts_none _ _ _ _ (sym c.in_default.is ∙ c.octets_found.ensures) c.in_default-what.not-Header c.in_default-what.not-Fault)
