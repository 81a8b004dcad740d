-- The list of a log that is taken in pieces: the text of each part, and the counts behind it. These are the code's words: what the list
-- is stands in List.antt.
-- Assumes nothing.
use Rattle.std.specs.Prelude.{◌≡◌, ℕ, ◌+◌, ◌*◌, ◌/◌, ◌%◌, ◌^◌, cond, List, [], ◌∷◌, ◌++◌, length, take, ◌==◌}
use Rattle.runs.specs.Runs.{over}
use Rattle.cell_log.specs.Answers.{Header}
use Rattle.receiver.specs.declared.Receiver.{Receiver}
use Rattle.receiver.specs.declared.Received.{Received}
use Rattle.receiver.specs.Receiver.{opened_of, judged_of}
use Rattle.reading.specs.Reading.{fresh_of}
use Rattle.reading.specs.Records.{Whole, front_of}
use Rattle.pieces.specs.Limit.{Part, head, whole, refused, broken, done}
use Rattle.pieces.specs.Steps as pieces
use Rattle.pieces.specs.Steps.{taking_of, stood_of}
use Rattle.pieces.specs.Taken.{handed, end_parts}
use Rattle.text.specs.declared.Put.{Put}
use Rattle.listing.specs.declared.Listing.{Listing}
use Rattle.listing.specs.declared.Printed.{Printed}
use Rattle.listing.specs.declared.Tally.{Tally}
use Rattle.listing.specs.Lines.{format_line, broken_line, end_line, log_refused_line}
use Rattle.listing.specs.List.{line_of}
use Rattle.text.specs.Put.{listed}

-- a receiver opened by a header, and nothing counted yet
abbrev pub fresh_tally : Header → Tally
fresh_tally header = record { state = fresh_of header; records = 0; sound = 0; missing = 0; refused = 0 }

abbrev pub judged_whole : Receiver → Whole → Received
judged_whole state w = judged_of state w.cell w.indication

abbrev pub judged_front : Receiver → List ℕ → Received
judged_front state octets = judged_whole state (front_of octets)

-- the counts past a record. They are numbers of 64 bits; the theorem of the list says that none wraps.
unfoldable pub after_of : Tally → Received → Tally
after_of t got =
    cond (got.refusal == 0)
    (record {
      state = got.state;
      records = (t.records + 1) % 2 ^ 64;
      sound = (t.sound + 1) % 2 ^ 64;
      missing = (t.missing + got.missing) % 2 ^ 64;
      refused = t.refused;
    })
    (record {
      state = got.state;
      records = (t.records + 1) % 2 ^ 64;
      sound = t.sound;
      missing = t.missing;
      refused = (t.refused + 1) % 2 ^ 64;
    })

-- the fault (0: none) and the end line
unfoldable pub end_text : Tally → ℕ → List ℕ
end_text t fault =
    cond (fault == 0)
    (end_line t.sound t.missing t.refused)
    (broken_line t.records fault ++ end_line t.sound t.missing t.refused)

-- the lines of a part, and the counts behind it
unfoldable pub part_text : Tally → Part → List ℕ
part_text t (head h) = format_line h.format h.channels h.order
part_text t (whole w) = line_of t.records (judged_whole t.state w)
part_text t (refused refusal) = log_refused_line refusal
part_text t (broken refusal) = end_text t refusal
part_text t done = end_text t 0

unfoldable pub part_tally : Tally → Part → Tally
part_tally t (head h) = fresh_tally h
part_tally t (whole w) = after_of t (judged_whole t.state w)
part_tally t (refused refusal) = t
part_tally t (broken refusal) = t
part_tally t done = t

unfoldable pub text_of : Tally → List Part → List ℕ
text_of t [] = []
text_of t (p ∷ ps) = part_text t p ++ text_of (part_tally t p) ps

unfoldable pub tally_of : Tally → List Part → Tally
tally_of t [] = t
tally_of t (p ∷ ps) = tally_of (part_tally t p) ps

-- before the first octet
abbrev pub no_tally : Tally
no_tally = record { state = (opened_of 0 0 0).state; records = 0; sound = 0; missing = 0; refused = 0 }

abbrev pub start_of : ℕ → Listing
start_of limit = record { standing = pieces.start_of limit; tally = no_tally }

-- what a piece hands out, and the list behind it
abbrev pub piece_parts : Listing → List ℕ → List ℕ → List Part
piece_parts l held piece = handed (taking_of l.standing held) piece

abbrev pub piece_text : Listing → List ℕ → List ℕ → List ℕ
piece_text l held piece = text_of l.tally (piece_parts l held piece)

abbrev pub listing_after : Listing → List ℕ → List ℕ → Listing
listing_after l held piece =
    record { standing = (stood_of l.standing held piece).standing; tally = tally_of l.tally (piece_parts l held piece) }

-- what the end hands out
abbrev pub end_of_text : Listing → List ℕ → List ℕ
end_of_text l held = text_of l.tally (end_parts (taking_of l.standing held))

-- no text of a piece is longer, whatever the list: a line of at most 76 octets for each record that so many octets and those held
-- can make whole; and a format line, the fault and the end line
abbrev pub most_text : ℕ → ℕ
most_text octets = 216 + 76 * (octets / 49 + 1)

-- the whole promise of taking a piece: the answer, and what the lent array and the lent run hold afterwards
pub record Takes (l : Listing) (held piece run : List ℕ) (answer : Printed) (held_after run-after : List ℕ) : Type 0 where
  pub printed : answer.listed ≡ listed (length run) (piece_text l held piece)
  pub wrote : run-after ≡ over (take (length run) (piece_text l held piece)) run
  pub goes_on : answer.listing ≡ listing_after l held piece
  pub holds : held_after ≡ (stood_of l.standing held piece).held

-- the whole promise of the end
pub record Ends (l : Listing) (held run : List ℕ) (answer : Put) (run-after : List ℕ) : Type 0 where
  pub printed : answer ≡ listed (length run) (end_of_text l held)
  pub wrote : run-after ≡ over (take (length run) (end_of_text l held)) run

-- a log in pieces, each taken where the one before it left off: all that is written, the end included
unfoldable pub written_over_of : Listing → List ℕ → List (List ℕ) → List ℕ
written_over_of l held [] = end_of_text l held
written_over_of l held (piece ∷ pieces) =
    piece_text l held piece ++ written_over_of (listing_after l held piece) (stood_of l.standing held piece).held pieces

-- and the list behind them
unfoldable pub listing_over : Listing → List ℕ → List (List ℕ) → Listing
listing_over l held [] = l
listing_over l held (piece ∷ pieces) = listing_over (listing_after l held piece) (stood_of l.standing held piece).held pieces
