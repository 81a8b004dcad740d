-- Sharing channels out over circuits: request 11 of document 02, sentence after sentence.
-- Assumes nothing.
use Rattle.std.specs.Prelude.{Bool, true, false, cond, not, ◌&&◌, ◌||◌, List, [], ◌∷◌, ◌≡◌, ℕ, suc, ◌+◌, ◌-◌, ◌*◌, ◌/◌, min, eqb, ltb, leb, length}
use Rattle.runs.specs.Refusals.{or_else}
use Rattle.runs.specs.Runs.{tab}
use Rattle.formats.specs.Formats.{format_of, times_of, settings_refusal}

-- what the checker answers: the number of a refusal, or what it says of the plan
pub data Verdict : Type 0 where
  Refused : ℕ → Verdict
  Yes : Verdict
  Share : ℕ → Verdict
  Allowance : ℕ → Verdict
  Sum : Verdict

-- the answer's numbers for each case: "1 yes, 2 a share, 3 an allowance, 4 the sum (0 on a refusal)"; the circuit that 2 or 3 names, else 0
abbrev pub refusal_of : Verdict → ℕ
refusal_of (Refused n) = n
refusal_of Yes = 0
refusal_of (Share k) = 0
refusal_of (Allowance k) = 0
refusal_of Sum = 0

abbrev pub answer_of : Verdict → ℕ
answer_of (Refused n) = 0
answer_of Yes = 1
answer_of (Share k) = 2
answer_of (Allowance k) = 3
answer_of Sum = 4

abbrev pub circuit_of : Verdict → ℕ
circuit_of (Refused n) = 0
circuit_of Yes = 0
circuit_of (Share k) = k
circuit_of (Allowance k) = k
circuit_of Sum = 0

-- "1 as in 01": of one channel in order 0 only the octet can be refused
abbrev pub octet_refusal : ℕ → ℕ
octet_refusal octet = settings_refusal octet 1 0

-- S
abbrev pub slots_of : ℕ → ℕ
slots_of octet = (format_of octet).slots

-- "the shares are each 1 to S"
unfoldable pub fits_slots : ℕ → ℕ → Bool
fits_slots slots share = leb 1 share && leb share slots

-- "cells per second (sampling frequency divided by its T, rounded up)"
unfoldable pub cells_per_second : ℕ → ℕ → ℕ → ℕ
cells_per_second slots share frequency = (frequency + (times_of slots share - 1)) / times_of slots share

abbrev pub pick : Bool → Verdict → Verdict → Verdict
pick true v w = v
pick false v w = w

-- "A no names the first fault: circuit by circuit the share, then the allowance; the sum last". The first of these circuits has this
-- number, and those before it carry so many channels.
unfoldable pub judged_from : ℕ → ℕ → ℕ → ℕ → ℕ → List ℕ → List ℕ → Verdict
judged_from slots channels frequency circuit carried (share ∷ shares) (allowance ∷ allowances) =
    pick (fits_slots slots share)
    (pick (leb (cells_per_second slots share frequency) allowance)
    (judged_from slots channels frequency (suc circuit) (carried + share) shares allowances)
    (Allowance circuit))
    (Share circuit)
judged_from slots channels frequency circuit carried [] allowances = pick (eqb carried channels) Yes Sum
judged_from slots channels frequency circuit carried (share ∷ shares) [] = Share circuit

-- "up to 64 circuits and 1,024 channels"
abbrev pub is_too_many : ℕ → ℕ → Bool
is_too_many circuits channels = ltb 64 circuits || ltb 1024 channels

-- "1 as in 01, 5 for unequal runs, 22 for more than 64 circuits or 1,024 channels, then 23 for frequency 0 or above 1,000,000"
unfoldable pub check_refusal : ℕ → ℕ → ℕ → ℕ → ℕ → ℕ
check_refusal octet channels frequency circuits allowances =
    or_else octet
    (cond (not (eqb allowances circuits)) 5
    (cond (is_too_many circuits channels) 22
    (cond (ltb frequency 1 || ltb 1000000 frequency) 23 0)))

unfoldable pub checked_of : ℕ → ℕ → ℕ → List ℕ → List ℕ → Verdict
checked_of octet channels frequency shares allowances =
    pick (eqb (check_refusal (octet_refusal octet) channels frequency (length shares) (length allowances)) 0)
    (judged_from (slots_of octet) channels frequency 0 0 shares allowances)
    (Refused (check_refusal (octet_refusal octet) channels frequency (length shares) (length allowances)))

-- the next circuit's share where so many channels are left: "as far as S allows"
abbrev pub share_after : ℕ → ℕ → ℕ
share_after slots left = min slots left

-- "fills circuits in the given order": before circuit k stand k that carry S each
unfoldable pub planned_of : ℕ → ℕ → ℕ → List ℕ
planned_of slots channels circuits = tab (λ k. share_after slots (channels - k * slots)) circuits

-- "22", then "from the planner, 30 exactly when S times the circuits is below the channels"
unfoldable pub plan_refusal : ℕ → ℕ → ℕ → ℕ → ℕ
plan_refusal octet slots channels circuits =
    or_else octet (cond (is_too_many circuits channels) 22 (cond (ltb (slots * circuits) channels) 30 0))

-- the refusal of a plan, and what the run holds afterwards: on a refusal what it held
abbrev pub plan_refusal_of : ℕ → ℕ → List ℕ → ℕ
plan_refusal_of octet channels shares = plan_refusal (octet_refusal octet) (slots_of octet) channels (length shares)

pub record Plans (octet channels : ℕ) (shares : List ℕ) (refusal : ℕ) (shares₁ : List ℕ) : Type 0 where
  pub refused : refusal ≡ plan_refusal_of octet channels shares
  pub leaves : shares₁ ≡ cond (eqb (plan_refusal_of octet channels shares) 0) (planned_of (slots_of octet) channels (length shares)) shares
