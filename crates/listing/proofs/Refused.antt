-- What a list says of a log that is refused.
-- Assumes nothing.
use Rattle.std.proofs.Common.{◌≡◌, ℕ, ◌%◌, ◌≤◌, true, eqb, List, length, take, ap, ◌∙◌, eq-eqb, ne_eqb}
use Rattle.cell_log.specs.Records.{header_of}
use Rattle.pieces.specs.Limit.{Part, refused}
use Rattle.pieces.specs.Steps.{held_count, taking_of}
use Rattle.pieces.specs.Taken.{joined_of}
use Rattle.listing.specs.declared.Listing.{Listing}
use Rattle.listing.specs.Lines.{log_refused_line}
use Rattle.listing.specs.List.{list_to}
use Rattle.listing.specs.Taking.{part_text, text_of, start_of, end_of_text, written_over_of}
use Rattle.listing.proofs.Texts.{one_text, parts_in_header}
use Rattle.listing.proofs.Whole.{any_division_list}

-- a refused log has one line, and nothing else is told of it
pub refused_list : (limit : ℕ) (log : List ℕ) → ((header_of log).refusal ≡ 0 → ⊥) → list_to limit log ≡ log_refused_line (header_of log).refusal
unfolding list_to
refused_list limit log some = rw (ne_eqb (header_of log).refusal 0 some)

-- however it is divided
pub refused_over : (limit : ℕ) (held : List ℕ) (ps : List (List ℕ)) → limit ≤ 4294967295 → length held ≡ 49
    → ((header_of (joined_of ps)).refusal ≡ 0 → ⊥) → written_over_of (start_of limit) held ps ≡ log_refused_line (header_of (joined_of ps)).refusal
refused_over limit held ps long size some = any_division_list limit held ps long size ∙ refused_list limit (joined_of ps) some

-- a log that ends in its header
pub refused_end : (l : Listing) (held : List ℕ) → l.standing.stage ≡ 0
    → end_of_text l held ≡ log_refused_line (header_of (take (l.standing.count % 9) held)).refusal
unfolding part_text taking_of held_count
refused_end l held z =
    let t : eqb l.standing.stage 0 ≡ true = eq-eqb l.standing.stage 0 z in
    let last : Part = refused (header_of (taking_of l.standing held).part).refusal in
    ap (text_of l.tally) (parts_in_header l.standing held z) ∙ one_text l.tally last ∙ rw t
