-- The salvage of a log that is taken in pieces: its state as numbers, and what each call leaves, as include/rimesatchel.h has it.
-- Assumes nothing.
use Rattle.std.specs.Prelude.{Bool, cond, ◌&&◌, List, [], ◌∷◌, ◌++◌, ◌≡◌, ℕ, ◌%◌, leb, length, get_or, take, replicate}
use Rattle.runs.specs.Runs.{over}
use Rattle.pieces.specs.Steps.{stood_of}
use Rattle.salvaging.specs.declared.Salvaging.{Salvaging}
use Rattle.salvaging.specs.Taking.{start_of, most_out, most_notes, piece_octets, piece_text, salvaging_after, end_of_text}
use Rattle.rimesatchel.specs.States.{standing_in, receiver_in, with_numbers, room_refusal, Turns}

unfoldable pub salvaging_from : List ℕ → Salvaging
salvaging_from s =
    record {
      standing = standing_in s;
      octets = get_or s 11 0;
      tally = record {
        state = receiver_in s;
        refusal = get_or s 12 0 % 256;
        taken = get_or s 13 0;
        kept = get_or s 14 0;
        left_out = get_or s 15 0;
      };
    }

unfoldable pub salvage_numbers : Salvaging → List ℕ
salvage_numbers v =
    with_numbers v.standing v.tally.state
    (v.octets ∷ v.tally.refusal ∷ v.tally.taken ∷ v.tally.kept ∷ v.tally.left_out ∷ [])

-- of a log of any length
pub record SalvageStarted (refusal : ℕ) (state held : List ℕ) : Type 0 where
  pub refused : refusal ≡ 0
  pub leaves : state ≡ salvage_numbers start_of
  pub holds : held ≡ replicate 49 0
  pub begins : salvaging_from state ≡ start_of

-- "out 3 + 49 × (piece / 49 + 1); notes 216 + 50 × (piece / 49 + 1)"
abbrev pub both_room : List ℕ → List ℕ → List ℕ → Bool
both_room piece out notes = leb (most_out (length piece)) (length out) && leb (most_notes (length piece)) (length notes)

-- what a piece makes: all of it, or nothing where it is refused
abbrev pub out_taken : List ℕ → List ℕ → List ℕ → List ℕ → List ℕ → List ℕ
out_taken state held piece out notes = cond (both_room piece out notes) (piece_octets (salvaging_from state) held piece) []

abbrev pub notes_taken : List ℕ → List ℕ → List ℕ → List ℕ → List ℕ → List ℕ
notes_taken state held piece out notes = cond (both_room piece out notes) (piece_text (salvaging_from state) held piece) []

pub record SalvageTaken (state held piece out notes : List ℕ) (refusal : ℕ) (state₁ held₁ out₁ notes₁ written : List ℕ) : Type 0 where
  pub refused : refusal ≡ room_refusal (both_room piece out notes)
  pub counted : written ≡ length (out_taken state held piece out notes) ∷ length (notes_taken state held piece out notes) ∷ []
  pub wrote_out : out₁ ≡ over (out_taken state held piece out notes) out
  pub wrote_notes : notes₁ ≡ over (notes_taken state held piece out notes) notes
  pub leaves : state₁ ≡ cond (both_room piece out notes) (salvage_numbers (salvaging_after (salvaging_from state) held piece)) state
  pub holds : held₁ ≡ cond (both_room piece out notes) (stood_of (salvaging_from state).standing held piece).held held
  pub goes_on : salvaging_from state₁
      ≡ cond (both_room piece out notes) (salvaging_after (salvaging_from state) held piece) (salvaging_from state)

-- "at the end 216"
abbrev pub last_room : List ℕ → Bool
last_room notes = leb 216 (length notes)

abbrev pub last_taken_of : List ℕ → List ℕ → List ℕ → List ℕ
last_taken_of state held notes = cond (last_room notes) (end_of_text (salvaging_from state) held) []

pub record SalvageEnded (state held notes : List ℕ) (refusal : ℕ) (notes₁ : List ℕ) (written : ℕ) : Type 0 where
  pub refused : refusal ≡ room_refusal (last_room notes)
  pub counted : written ≡ length (last_taken_of state held notes)
  pub wrote : notes₁ ≡ over (last_taken_of state held notes) notes

-- the octets of the new log, and the notes
pub record Salvaged : Type 0 where
  pub saved : List ℕ
  pub notes : List ℕ

abbrev pub both_joined : Salvaged → Salvaged → Salvaged
both_joined a b = record { saved = a.saved ++ b.saved; notes = a.notes ++ b.notes }

-- a piece that is taken, and the octets that the call says it wrote; and the same at the end
pub record SalvagePrints (state held piece state₁ held₁ : List ℕ) (part : Salvaged) : Type 0 where
  pub out : List ℕ
  pub notes : List ℕ
  pub out₁ : List ℕ
  pub notes₁ : List ℕ
  pub written : List ℕ
  pub call : SalvageTaken state held piece out notes 0 state₁ held₁ out₁ notes₁ written
  pub saves : part.saved ≡ take (get_or written 0 0) out₁
  pub says : part.notes ≡ take (get_or written 1 0) notes₁

pub record SalvageCloses (state held : List ℕ) (part : Salvaged) : Type 0 where
  pub notes : List ℕ
  pub notes₁ : List ℕ
  pub written : ℕ
  pub call : SalvageEnded state held notes 0 notes₁ written
  pub saves : part.saved ≡ []
  pub says : part.notes ≡ take written notes₁

-- all that calls print of a log in pieces, the end included
abbrev pub SalvagePrinted : List (List ℕ) → List ℕ → List ℕ → Salvaged → Type 0
SalvagePrinted pieces state held all = Turns both_joined SalvagePrints SalvageCloses pieces state held all
