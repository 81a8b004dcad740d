-- What second numbers tell of lost cells beside those that numbers tell: of any sender, and of one that counts blocks.
-- Assumes nothing.
use Rattle.std.specs.Prelude.{Bool, true, cond, not, ◌&&◌, ◌≡◌, ℕ, ◌+◌, ◌*◌, ◌/◌, ◌%◌, ◌≤◌, eqb, replicate}
use mathlib.Core.List.{List, [], ◌∷◌, ◌++◌, map, flat_map}
use Rattle.sender.specs.Sender as S
use Rattle.receiver.specs.declared.Receiver.{Receiver}
use Rattle.receiver.specs.Receiver as R
use Rattle.reading.specs.Totals.{total_of, those, Each}
use Rattle.slips.specs.Reports.{Report, told_of, watched_from, no_watch, NeverLonger, NeverAhead, SpacedOut}
use Rattle.line.specs.Calls.{SendCall, ReceiveCall}
use Rattle.line.specs.Line.{Trip, Place, handed_by, places_of, left_by, OverTheLine}
use Rattle.line.specs.Losses.{lost_since, Told, is_taken, story, taken_in, first_place, past_place}

-- the calls that took a cell, and what they report
abbrev pub took_in : List ReceiveCall → List ReceiveCall
took_in calls = those (λ c. eqb c.answer.refusal 0) calls

abbrev pub report_of : ReceiveCall → Report
report_of c = record { missing = c.answer.missing; number = c.answer.number; second = c.answer.second }

abbrev pub reports_of : List ReceiveCall → List Report
reports_of calls = map report_of (took_in calls)

-- how many cells were sent before each cell that is taken, since the one taken before it: refused ones are among them
abbrev pub lost_before : List Trip → List ℕ
lost_before trips = map (λ x. lost_since x.since) (taken_in trips)

-- "of any sender, any line of demand 3's kind, any row of lost cells: what is told between two taken cells is a multiple of 16 and at
-- most the true slip", and "the same of the watch, one cell later"
pub record TellsNoMore (fresh : Receiver) (trips : List Trip) (receives : List ReceiveCall) : Type 0 where
  pub never_longer : NeverLonger (told_of (reports_of receives)) (lost_before trips)
  pub never_ahead : NeverAhead 0 (watched_from no_watch (reports_of receives)) (lost_before trips)

unfoldable pub NeverTooLong : ℕ → ℕ → (SendCall → Type 0) → (ReceiveCall → Type 0) → Type 0
NeverTooLong most cells SendBox ReceiveBox = (row : ℕ) → OverTheLine most row cells SendBox ReceiveBox TellsNoMore

-- "a sender that counts blocks (second numbers wanted, the indication in every cell written whose number is a multiple of 8)"
abbrev pub CountsBlocks : List Trip → Type 0
CountsBlocks trips =
    Each (λ t. (t.sent.state.wanted ≡ true) × (t.sent.state.number % 8 ≡ 0 → t.sent.indication ≡ true)) trips

-- "where at most 119 cells were sent between two cells that are taken": `between` is the 119
abbrev pub FewBetween : ℕ → List Trip → Type 0
FewBetween between trips = Each (λ (k : ℕ). k ≤ between) (lost_before trips)

-- "What is handed out with the told cells put in as missing": before what each call hands out
unfoldable pub put_in : List ℕ → List ReceiveCall → List Place
put_in [] calls = []
put_in (n ∷ ns) [] = []
put_in (n ∷ ns) (c ∷ cs) = (replicate (n * R.used_now c.state) (0, (0, 2)) ++ handed_by c) ++ put_in ns cs

-- "every cell from the first taken one to the last: a taken one in its place, exact and marked 0, every other one 0 and marked 2"
abbrev pub shown_for : Told → List Place
shown_for x = cond (is_taken x) (places_of x.trip) (replicate (S.used_now x.trip.sent.state) (0, (0, 2)))

unfoldable pub from_taken : List Told → List Told
from_taken [] = []
from_taken (x ∷ xs) = cond (is_taken x) (x ∷ xs) (from_taken xs)

unfoldable pub none_taken : List Told → Bool
none_taken [] = true
none_taken (x ∷ xs) = not (is_taken x) && none_taken xs

unfoldable pub to_taken : List Told → List Told
to_taken [] = []
to_taken (x ∷ xs) = cond (none_taken (x ∷ xs)) [] (x ∷ to_taken xs)

-- the slips: what was lost beside what the numbers tell
abbrev pub slips_in : List Trip → List ℕ
slips_in trips = map (λ (k : ℕ). 16 * (k / 16)) (lost_before trips)

pub record TellsAll (fresh : Receiver) (trips : List Trip) (receives : List ReceiveCall) : Type 0 where
  -- "what is told is the slip"
  pub exact : told_of (reports_of receives) ≡ slips_in trips
  pub handed_out : put_in (told_of (reports_of receives)) (took_in receives) ≡ flat_map shown_for (to_taken (from_taken (story trips)))
  -- "the count of request 5 plus what was told is the place"
  pub counted : first_place (taken_in trips) + (left_by fresh receives).count + total_of (λ (n : ℕ). n) (told_of (reports_of receives))
      ≡ past_place 0 (taken_in trips)
  -- "the same of the watch, one cell later": "each slip has two taken cells in step before it and two behind it"
  pub watched : SpacedOut (lost_before trips) → watched_from no_watch (reports_of receives) ++ (0 ∷ []) ≡ 0 ∷ slips_in trips

unfoldable pub SlipsExact : ℕ → ℕ → ℕ → (SendCall → Type 0) → (ReceiveCall → Type 0) → Type 0
SlipsExact between most cells SendBox ReceiveBox =
    (row : ℕ)
    → OverTheLine most row cells SendBox ReceiveBox
    (λ fresh trips receives. CountsBlocks trips → FewBetween between trips → TellsAll fresh trips receives)
