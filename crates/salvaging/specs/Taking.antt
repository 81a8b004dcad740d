-- Words that only the code of the salvage in pieces needs: what is written of each part of a log, and the counts behind it.
-- Assumes nothing.
use Rattle.std.specs.Prelude.{◌≡◌, ℕ, ◌+◌, ◌-◌, ◌*◌, ◌/◌, ◌%◌, ◌^◌, cond, List, [], ◌∷◌, ◌++◌, length, take, ◌==◌}
use Rattle.runs.specs.Runs.{over}
use Rattle.cell_log.specs.Answers.{Header}
use Rattle.cell_log.specs.Written.{record_octets}
use Rattle.receiver.specs.declared.Receiver.{Receiver}
use Rattle.receiver.specs.declared.Received.{Received}
use Rattle.receiver.specs.Receiver.{opened_of, judged_of}
use Rattle.reading.specs.Reading.{fresh_of}
use Rattle.reading.specs.Records.{Whole}
use Rattle.pieces.specs.Limit.{Part, head, whole, refused, broken, done}
use Rattle.pieces.specs.Steps as pieces
use Rattle.pieces.specs.Steps.{taking_of, stood_of}
use Rattle.pieces.specs.Taken.{handed, end_parts}
use Rattle.text.specs.declared.Put.{Put}
use Rattle.text.specs.Put.{Puts}
use Rattle.text.specs.Put.{listed}
use Rattle.salvaging.specs.declared.Salvaging.{Salvaging}
use Rattle.salvaging.specs.declared.Tally.{Tally}
use Rattle.salvaging.specs.declared.Wrote.{Wrote}
use Rattle.listing.specs.Lines.{refused_line, log_refused_line}
use Rattle.salvaging.specs.Lines.{end_line}

-- a receiver opened by a header of three octets, and no record yet
abbrev pub fresh_tally : Header → Tally
fresh_tally header = record { state = fresh_of header; refusal = 0; taken = 3; kept = 0; left_out = 0 }

-- where the header is refused
abbrev pub refused_by : Tally → ℕ → Tally
refused_by t refusal = record { state = t.state; refusal = refusal; taken = t.taken; kept = t.kept; left_out = t.left_out }

abbrev pub judged_whole : Receiver → Whole → Received
judged_whole state w = judged_of state w.cell w.indication

-- the counts past a record. They are numbers of 64 bits; the theorem of the salvage says that none wraps.
unfoldable pub after_of : Tally → Received → Tally
after_of t got =
    cond (got.refusal == 0)
    (record {
      state = got.state;
      refusal = t.refusal;
      taken = (t.taken + 49) % 2 ^ 64;
      kept = (t.kept + 1) % 2 ^ 64;
      left_out = t.left_out;
    })
    (record {
      state = got.state;
      refusal = t.refusal;
      taken = (t.taken + 49) % 2 ^ 64;
      kept = t.kept;
      left_out = (t.left_out + 1) % 2 ^ 64;
    })

-- a header's numbers as octets
abbrev pub head_octets : Header → List ℕ
head_octets h = h.format % 256 ∷ h.channels % 256 ∷ h.order % 256 ∷ []

-- what of a part goes into the new log, what into the notes, and the counts behind it
unfoldable pub part_octets : Tally → Part → List ℕ
part_octets t (head h) = head_octets h
part_octets t (whole w) = cond ((judged_whole t.state w).refusal == 0) (record_octets w.indication w.cell) []
part_octets t (refused refusal) = []
part_octets t (broken refusal) = []
part_octets t done = []

unfoldable pub part_text : Tally → Part → List ℕ
part_text t (head h) = []
part_text t (whole w) =
    cond ((judged_whole t.state w).refusal == 0)
    []
    (refused_line ((t.kept + t.left_out) % 2 ^ 64) (judged_whole t.state w).refusal)
part_text t (refused refusal) = []
part_text t (broken refusal) = []
part_text t done = []

unfoldable pub part_tally : Tally → Part → Tally
part_tally t (head h) = fresh_tally h
part_tally t (whole w) = after_of t (judged_whole t.state w)
part_tally t (refused refusal) = refused_by t refusal
part_tally t (broken refusal) = t
part_tally t done = t

unfoldable pub octets_by : Tally → List Part → List ℕ
octets_by t [] = []
octets_by t (p ∷ ps) = part_octets t p ++ octets_by (part_tally t p) ps

unfoldable pub text_by : Tally → List Part → List ℕ
text_by t [] = []
text_by t (p ∷ ps) = part_text t p ++ text_by (part_tally t p) ps

unfoldable pub tally_by : Tally → List Part → Tally
tally_by t [] = t
tally_by t (p ∷ ps) = tally_by (part_tally t p) ps

-- one part: what is put into each run, and the counts
pub record TellsOne (t : Tally) (p : Part) (out : List ℕ) (saved : Put) (out₁ : List ℕ) (saved₁ : Put) (notes : List ℕ) (noted : Put)
    (notes₁ : List ℕ) (noted₁ : Put) (t₁ : Tally)
    : Type 0
  where
    pub saves : Puts out saved out₁ saved₁ (part_octets t p)
    pub notes_it : Puts notes noted notes₁ noted₁ (part_text t p)
    pub counts : t₁ ≡ part_tally t p

-- and of parts in a row
pub record Tells (t : Tally) (ps : List Part) (out : List ℕ) (saved : Put) (out₁ : List ℕ) (saved₁ : Put) (notes : List ℕ)
    (noted : Put) (notes₁ : List ℕ) (noted₁ : Put) (t₁ : Tally)
    : Type 0
  where
    pub saves : Puts out saved out₁ saved₁ (octets_by t ps)
    pub notes_it : Puts notes noted notes₁ noted₁ (text_by t ps)
    pub counts : t₁ ≡ tally_by t ps

-- before the first octet
abbrev pub no_tally : Tally
no_tally = record { state = (opened_of 0 0 0).state; refusal = 0; taken = 0; kept = 0; left_out = 0 }

abbrev pub start_of : Salvaging
start_of = record { standing = pieces.start_of 18446744073709551615; octets = 0; tally = no_tally }

-- what a piece hands out, and the salvage behind it
abbrev pub piece_parts : Salvaging → List ℕ → List ℕ → List Part
piece_parts s held piece = handed (taking_of s.standing held) piece

abbrev pub piece_octets : Salvaging → List ℕ → List ℕ → List ℕ
piece_octets s held piece = octets_by s.tally (piece_parts s held piece)

abbrev pub piece_text : Salvaging → List ℕ → List ℕ → List ℕ
piece_text s held piece = text_by s.tally (piece_parts s held piece)

abbrev pub salvaging_after : Salvaging → List ℕ → List ℕ → Salvaging
salvaging_after s held piece =
    record {
      standing = (stood_of s.standing held piece).standing;
      octets = (s.octets + length piece) % 2 ^ 64;
      tally = tally_by s.tally (piece_parts s held piece);
    }

-- the counts at the end, where a header that isn't whole is refused
abbrev pub end_tally : Salvaging → List ℕ → Tally
end_tally s held = tally_by s.tally (end_parts (taking_of s.standing held))

-- what is said last
unfoldable pub last_text : ℕ → Tally → List ℕ
last_text octets t =
    cond (t.refusal == 0) (end_line t.kept t.left_out (octets - t.taken)) (log_refused_line t.refusal)

abbrev pub end_of_text : Salvaging → List ℕ → List ℕ
end_of_text s held = last_text s.octets (end_tally s held)

-- no more of the new log and of the notes comes of a piece, whatever the salvage: 49 octets or a line of at most 50 for each record
-- that so many octets and those held can make whole; and the header, or the last line
abbrev pub most_out : ℕ → ℕ
most_out octets = 3 + 49 * (octets / 49 + 1)

abbrev pub most_notes : ℕ → ℕ
most_notes octets = 216 + 50 * (octets / 49 + 1)

-- the whole promise of taking a piece: the answer, and what the lent array and the lent runs hold afterwards
pub record Takes (s : Salvaging) (held piece out notes : List ℕ) (answer : Wrote) (held_after out_after notes-after : List ℕ) : Type 0 where
  pub saved : answer.saved ≡ listed (length out) (piece_octets s held piece)
  pub noted : answer.noted ≡ listed (length notes) (piece_text s held piece)
  pub wrote_out : out_after ≡ over (take (length out) (piece_octets s held piece)) out
  pub wrote_notes : notes-after ≡ over (take (length notes) (piece_text s held piece)) notes
  pub goes_on : answer.salvaging ≡ salvaging_after s held piece
  pub holds : held_after ≡ (stood_of s.standing held piece).held

-- the whole promise of the end
pub record Ends (s : Salvaging) (held notes : List ℕ) (answer : Put) (notes-after : List ℕ) : Type 0 where
  pub noted : answer ≡ listed (length notes) (end_of_text s held)
  pub wrote_notes : notes-after ≡ over (take (length notes) (end_of_text s held)) notes

-- a log in pieces, each taken where the one before it left off: all that is written into the new log, and all notes, the last line
-- included
unfoldable pub saved_over : Salvaging → List ℕ → List (List ℕ) → List ℕ
saved_over s held [] = []
saved_over s held (piece ∷ pieces) =
    piece_octets s held piece ++ saved_over (salvaging_after s held piece) (stood_of s.standing held piece).held pieces

unfoldable pub notes_over : Salvaging → List ℕ → List (List ℕ) → List ℕ
notes_over s held [] = end_of_text s held
notes_over s held (piece ∷ pieces) =
    piece_text s held piece ++ notes_over (salvaging_after s held piece) (stood_of s.standing held piece).held pieces
