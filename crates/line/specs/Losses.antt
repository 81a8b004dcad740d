-- What is handed out whatever the line loses: demand 3's words without its limit of fourteen.
-- Assumes nothing.
use Rattle.std.specs.Prelude.{Bool, false, cond, not, ◌&&◌, ◌≡◌, ℕ, suc, ◌+◌, ◌*◌, ◌/◌, ◌%◌, eqb, take, drop, replicate}
use mathlib.Core.List.{List, [], ◌∷◌, ◌++◌, map, flat_map}
use Rattle.sender.specs.Sender as S
use Rattle.receiver.specs.declared.Receiver.{Receiver}
use Rattle.reading.specs.Totals.{total_of, those}
use Rattle.line.specs.Calls.{SendCall, ReceiveCall}
use Rattle.line.specs.Line.{
  Fate,
  dropped,
  spoiled,
  unaltered,
  is_lost,
  Trip,
  Place,
  handed,
  places_of,
  left_by,
  OverTheLine,
  refusals,
  refusals_of,
}

-- how many cells in a row were lost since the receiver took one, or that it took none yet
pub data Since : Type 0 where
  never : Since
  after : ℕ → Since

abbrev pub lost_since : Since → ℕ
lost_since never = 0
lost_since (after k) = k

abbrev pub one_more : Since → Since
one_more never = never
one_more (after k) = after (suc k)

-- "after 15 modulo 16 lost ones": the next cell has the number of the one taken last
abbrev pub comes_round : Since → Bool
comes_round never = false
comes_round (after k) = eqb (k % 16) 15

-- a sent cell: its trip, its place in the row, counted from 0, and what was lost before it
pub record Told : Type 0 where
  pub trip : Trip
  pub place : ℕ
  pub since : Since

-- the receiver takes it: "an unaltered cell after 15 modulo 16 lost ones is refused 9 and is lost too"
abbrev pub is_taken : Told → Bool
is_taken x = not (is_lost x.trip.fate) && not (comes_round x.since)

-- all sent cells in their order, from this place on
unfoldable pub story_from : ℕ → Since → List Trip → List Told
story_from place since [] = []
story_from place since (t ∷ ts) =
    record { trip = t; place = place; since = since }
    ∷ story_from (suc place) (cond (is_taken (record { trip = t; place = place; since = since })) (after 0) (one_more since)) ts

abbrev pub story : List Trip → List Told
story trips = story_from 0 never trips

-- those that the receiver takes
abbrev pub taken_from : ℕ → Since → List Trip → List Told
taken_from place since trips = those is_taken (story_from place since trips)

abbrev pub taken_in : List Trip → List Told
taken_in trips = taken_from 0 never trips

-- "k lost ones are shown as k modulo 16 missing", then the cell itself, as demand 3 has it
abbrev pub missing_before : Told → ℕ
missing_before x = lost_since x.since % 16

abbrev pub places_with : Told → List Place
places_with x = replicate (missing_before x * S.used_now x.trip.sent.state) (0, (0, 2)) ++ places_of x.trip

-- the refusals that one cell's deliveries get, 0 where it is taken: an unaltered one that comes round is refused 9 each time
abbrev pub refusals_at : Bool → Fate → List ℕ
refusals_at round dropped = []
refusals_at round (spoiled came indication again) = refusals_of (spoiled came indication again)
refusals_at round (unaltered again) = cond round 9 0 ∷ replicate again 9

abbrev pub refusals_with : Told → List ℕ
refusals_with x = refusals_at (comes_round x.since) x.trip.fate

-- a place that is marked sound
abbrev pub is_marked_sound : Place → Bool
is_marked_sound p = eqb p.1.1 0

-- how often sixteen cells are not shown before a cell
abbrev pub sixteens : Told → ℕ
sixteens x = lost_since x.since / 16

-- the place of the first of such cells, and the place past the last one
abbrev pub first_place : List Told → ℕ
first_place [] = 0
first_place (x ∷ xs) = x.place

unfoldable pub past_place : ℕ → List Told → ℕ
past_place past [] = past
past_place past (x ∷ xs) = past_place (suc x.place) xs

-- the cell's places are handed out behind those of so many cells
abbrev pub StandsAt : List Place → ℕ → Told → Type 0
StandsAt out at x =
    take (S.used_now x.trip.sent.state) (drop (at * S.used_now x.trip.sent.state) out) ≡ places_of x.trip

-- "places slip back by whole multiples of 16 cells, never forward and never by another number": each cell that is taken is handed
-- out so many sixteens of cells before its true place, counted from the first one's, and that number never falls
unfoldable pub SlipBack : List Place → ℕ → ℕ → ℕ → List Told → Type 0
SlipBack out first slips shown [] = Unit {0}
SlipBack out first slips shown (x ∷ xs) =
    StandsAt out (shown + missing_before x) x
    × (x.place ≡ first + (shown + missing_before x) + 16 * (slips + sixteens x))
    × SlipBack out first (slips + sixteens x) (suc (shown + missing_before x)) xs

-- what holds whatever is lost
pub record Shows (fresh : Receiver) (trips : List Trip) (receives : List ReceiveCall) : Type 0 where
  -- "between two cells that the receiver takes, k lost ones are shown as k modulo 16 missing"
  pub handed_out : handed receives ≡ flat_map places_with (taken_in trips)
  -- "an unaltered cell after 15 modulo 16 lost ones is refused 9"
  pub refused : refusals receives ≡ flat_map refusals_with (story trips)
  -- "everything that is marked sound is exact and in the order in which it was sent"
  pub sound : those is_marked_sound (handed receives) ≡ flat_map (λ x. places_of x.trip) (taken_in trips)
  pub as_sent : map (λ x. x.trip) (story trips) ≡ trips
  -- "places slip back by whole multiples of 16 cells"
  pub slip_back : SlipBack (handed receives) (first_place (taken_in trips)) 0 0 (taken_in trips)
  -- "the count of request 5 falls short of the true place by just such a multiple"
  pub counted : first_place (taken_in trips) + (left_by fresh receives).count + 16 * total_of sixteens (taken_in trips)
      ≡ past_place 0 (taken_in trips)

-- it holds of two boxes, however long the rows of lost cells are; the other conditions are demand 3's
unfoldable pub AnyLoss : ℕ → ℕ → (SendCall → Type 0) → (ReceiveCall → Type 0) → Type 0
AnyLoss most cells SendBox ReceiveBox = (row : ℕ) → OverTheLine most row cells SendBox ReceiveBox Shows
