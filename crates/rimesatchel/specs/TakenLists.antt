-- The list of a log that is taken in pieces: its state as numbers, and what each call leaves, as include/rimesatchel.h has it.
-- Assumes nothing.
use Rattle.std.specs.Prelude.{Bool, cond, List, [], ◌∷◌, ◌++◌, ◌≡◌, ℕ, leb, length, get_or, take, replicate}
use Rattle.runs.specs.Runs.{over}
use Rattle.pieces.specs.Steps.{stood_of}
use Rattle.listing.specs.declared.Listing.{Listing}
use Rattle.listing.specs.Taking.{start_of, most_text, piece_text, listing_after, end_of_text}
use Rattle.rimesatchel.specs.States.{standing_in, receiver_in, with_numbers, room_refusal, Turns}

unfoldable pub listing_from : List ℕ → Listing
listing_from s =
    record {
      standing = standing_in s;
      tally = record {
        state = receiver_in s;
        records = get_or s 11 0;
        sound = get_or s 12 0;
        missing = get_or s 13 0;
        refused = get_or s 14 0;
      };
    }

unfoldable pub list_numbers : Listing → List ℕ
list_numbers l =
    with_numbers l.standing l.tally.state
    (l.tally.records ∷ l.tally.sound ∷ l.tally.missing ∷ l.tally.refused ∷ [])

-- "a log of up to 4,294,967,295 octets"
pub record ListStarted (refusal : ℕ) (state held : List ℕ) : Type 0 where
  pub refused : refusal ≡ 0
  pub leaves : state ≡ list_numbers (start_of 4294967295)
  pub holds : held ≡ replicate 49 0
  pub begins : listing_from state ≡ start_of 4294967295

-- "text 216 + 76 × (piece / 49 + 1) octets"
abbrev pub list_room : List ℕ → List ℕ → Bool
list_room piece text = leb (most_text (length piece)) (length text)

-- the lines of a piece: all of them, or none where it is refused
abbrev pub text_taken : List ℕ → List ℕ → List ℕ → List ℕ → List ℕ
text_taken state held piece text = cond (list_room piece text) (piece_text (listing_from state) held piece) []

pub record ListTaken (state held piece text : List ℕ) (refusal : ℕ) (state₁ held₁ text₁ : List ℕ) (written : ℕ) : Type 0 where
  pub refused : refusal ≡ room_refusal (list_room piece text)
  pub counted : written ≡ length (text_taken state held piece text)
  pub wrote : text₁ ≡ over (text_taken state held piece text) text
  pub leaves : state₁ ≡ cond (list_room piece text) (list_numbers (listing_after (listing_from state) held piece)) state
  pub holds : held₁ ≡ cond (list_room piece text) (stood_of (listing_from state).standing held piece).held held
  pub goes_on : listing_from state₁ ≡ cond (list_room piece text) (listing_after (listing_from state) held piece) (listing_from state)

-- "at the end 216"
abbrev pub end_room : List ℕ → Bool
end_room text = leb 216 (length text)

abbrev pub end_taken : List ℕ → List ℕ → List ℕ → List ℕ
end_taken state held text = cond (end_room text) (end_of_text (listing_from state) held) []

pub record ListEnded (state held text : List ℕ) (refusal : ℕ) (text₁ : List ℕ) (written : ℕ) : Type 0 where
  pub refused : refusal ≡ room_refusal (end_room text)
  pub counted : written ≡ length (end_taken state held text)
  pub wrote : text₁ ≡ over (end_taken state held text) text

-- a piece that is taken, and the octets that the call says it wrote; and the same at the end
pub record ListPrints (state held piece state₁ held₁ part : List ℕ) : Type 0 where
  pub text : List ℕ
  pub text₁ : List ℕ
  pub written : ℕ
  pub call : ListTaken state held piece text 0 state₁ held₁ text₁ written
  pub prints : part ≡ take written text₁

pub record ListCloses (state held part : List ℕ) : Type 0 where
  pub text : List ℕ
  pub text₁ : List ℕ
  pub written : ℕ
  pub call : ListEnded state held text 0 text₁ written
  pub prints : part ≡ take written text₁

-- all that calls print of a log in pieces, the end included
abbrev pub ListPrinted : List (List ℕ) → List ℕ → List ℕ → List ℕ → Type 0
ListPrinted pieces state held all = Turns (λ part rest. part ++ rest) ListPrints ListCloses pieces state held all
