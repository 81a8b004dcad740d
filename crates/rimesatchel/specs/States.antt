-- The state of a log that is taken in pieces, as numbers of 64 bits. "No state is refused and nothing is undefined: numbers are taken
-- modulo their width."
-- Assumes nothing.
use Rattle.std.specs.Prelude.{Bool, cond, not, List, [], ◌∷◌, ◌≡◌, ℕ, ◌%◌, ◌<◌, eqb, get_or}
use Rattle.receiver.specs.declared.Receiver.{Receiver}
use Rattle.pieces.specs.declared.Standing.{Standing}

-- where the log stands: a stage and a fault are octets
abbrev pub standing_from : ℕ → ℕ → ℕ → ℕ → ℕ → Standing
standing_from stage fault count left records =
    record { stage = stage % 256; fault = fault % 256; count = count; left = left; records = records }

-- the receiver's state: octets, a yes or no, and a count of 32 bits
abbrev pub receiver_from : ℕ → ℕ → ℕ → ℕ → ℕ → ℕ → Receiver
receiver_from format channels order started last count =
    record {
      format = format % 256;
      channels = channels % 256;
      order = order % 256;
      started = not (eqb started 0);
      last = last % 256;
      count = count % 4294967296;
    }

-- the first eleven numbers of each state
abbrev pub standing_in : List ℕ → Standing
standing_in s = standing_from (get_or s 0 0) (get_or s 1 0) (get_or s 2 0) (get_or s 3 0) (get_or s 4 0)

abbrev pub receiver_in : List ℕ → Receiver
receiver_in s = receiver_from (get_or s 5 0) (get_or s 6 0) (get_or s 7 0) (get_or s 8 0) (get_or s 9 0) (get_or s 10 0)

abbrev pub number_of : Bool → ℕ
number_of said = cond said 1 0

-- these numbers, before those that are a state's own
abbrev pub with_numbers : Standing → Receiver → List ℕ → List ℕ
with_numbers s r own =
    s.stage ∷ s.fault ∷ s.count ∷ s.left ∷ s.records ∷ r.format ∷ r.channels ∷ r.order ∷ number_of r.started ∷ r.last ∷ r.count
    ∷ own

-- each of these numbers is within its width
abbrev pub Within : Standing → Receiver → Type 0
Within s r =
    (s.stage < 256) × (s.fault < 256) × (r.format < 256) × (r.channels < 256) × (r.order < 256) × (r.last < 256) × (r.count < 4294967296)

-- 21 "where a run is shorter than such a piece's text can be, and nothing has moved then"
abbrev pub room_refusal : Bool → ℕ
room_refusal room = cond room 0 21

-- a log in pieces, each handed to a call with the state and the octets that the call before left: what the calls hand out, joined with
-- what the last call says
pub record Turn {A B : Type 0} (join : A → B → B) (Taken : List ℕ → List ℕ → List ℕ → List ℕ → List ℕ → A → Type 0)
    (Rest : List ℕ → List ℕ → B → Type 0) (state held piece : List ℕ) (all : B)
    : Type 0
  where
    pub state₁ : List ℕ
    pub held₁ : List ℕ
    pub part : A
    pub rest : B
    pub taken : Taken state held piece state₁ held₁ part
    pub behind : Rest state₁ held₁ rest
    pub joins : all ≡ join part rest

unfoldable pub Turns : {A B : Type 0} (join : A → B → B) (Taken : List ℕ → List ℕ → List ℕ → List ℕ → List ℕ → A → Type 0)
    (Ended : List ℕ → List ℕ → B → Type 0) → List (List ℕ) → List ℕ → List ℕ → B → Type 0
Turns join Taken Ended [] state held all = Ended state held all
Turns join Taken Ended (piece ∷ pieces) state held all = Turn join Taken (Turns join Taken Ended pieces) state held piece all
