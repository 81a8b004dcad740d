-- The figures of a log that is taken in pieces: what each part counts.
-- Assumes nothing.
use Rattle.std.specs.Prelude.{List, [], ◌∷◌, ◌≡◌, ℕ}
use Rattle.receiver.specs.Receiver.{opened_of}
use Rattle.reading.specs.Heard.{hear, onward}
use Rattle.reading.specs.Reading.{fresh_of}
use Rattle.pieces.specs.Limit.{Part, head, whole, refused, broken, done}
use Rattle.pieces.specs.Steps as pieces
use Rattle.pieces.specs.Steps.{taking_of, stood_of}
use Rattle.pieces.specs.Taken.{handed}
use Rattle.figures.specs.declared.Noted.{Noted}
use Rattle.figures.specs.declared.Tally.{Tally}
use Rattle.figures.specs.Code.{no_counts, one_of, capped}
use Rattle.figures.specs.Figures.{plus_of}

-- past a part: a header opens the receiver, a whole record counts, a fault counts nothing
unfoldable pub part_noted : Noted → Part → Noted
part_noted n (head h) = record { state = fresh_of h; counts = n.counts }
part_noted n (whole w) =
    record { state = onward (hear n.state w); counts = capped (plus_of n.counts (one_of (hear n.state w))) }
part_noted n (refused refusal) = n
part_noted n (broken refusal) = n
part_noted n done = n

unfoldable pub noted_by : Noted → List Part → Noted
noted_by n [] = n
noted_by n (p ∷ ps) = noted_by (part_noted n p) ps

-- before the first octet of a log of any length: nothing in a computer has 2^64 octets
abbrev pub no_noted : Noted
no_noted = record { state = (opened_of 0 0 0).state; counts = no_counts }

abbrev pub start_tally : Tally
start_tally = record { standing = pieces.start_of 18446744073709551615; noted = no_noted }

-- behind a piece
abbrev pub tally_after : Tally → List ℕ → List ℕ → Tally
tally_after t held piece =
    record {
      standing = (stood_of t.standing held piece).standing;
      noted = noted_by t.noted (handed (taking_of t.standing held) piece);
    }

-- the whole promise of taking a piece: the answer, and what the lent array holds afterwards
pub record Takes (t : Tally) (held piece : List ℕ) (answer : Tally) (held₁ : List ℕ) : Type 0 where
  pub goes_on : answer ≡ tally_after t held piece
  pub holds : held₁ ≡ (stood_of t.standing held piece).held

-- a log in pieces, each taken where the one before it left off
unfoldable pub tally_over : Tally → List ℕ → List (List ℕ) → Tally
tally_over t held [] = t
tally_over t held (piece ∷ pieces) = tally_over (tally_after t held piece) (stood_of t.standing held piece).held pieces
