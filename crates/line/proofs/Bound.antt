-- The bound on the cells sent is sharp: demand 3 doesn't hold for one cell more than 4,294,967,295.
-- Assumes nothing.
use mathlib.Core.Bool.{Bool, true, false}
use mathlib.Core.List.{List, [], ◌∷◌}
use mathlib.Core.Path.{◌≡◌, refl, sym, ◌∙◌, ap, subst}
use Prim.Native.Nat.{ℕ, zero, suc, ◌+◌, ◌%◌, ◌≤◌}
use native.Mathlib.Nat.{le_refl, le_of_suc-le-suc, mod-lt}
use native.Mathlib.Omega.{arith}
use borrow.Author.Tests.{eq-eqb, le-ltb}
use lib.ListN.{length, replicate}
use Rattle.sender.specs.declared.Sender.{Sender}
use Rattle.sender.specs.Sender as S
use Rattle.reading.specs.Totals.{Each}
use Rattle.line.specs.Calls.{SendCall, MeetsSend, MeetsReceive}
use Rattle.line.specs.Line.{Fate, unaltered, Fair, longest, wrote, arrivals, from_first, all_lost, to_last, left_by, Demand3}
use Rattle.line.proofs.Counts.{count_within}
use Rattle.line.proofs.Examples.{studio, fresh, sending, trips, sends, receives, receives_in_a_row, honest_plays}
use Rattle.line.proofs.Opened.{opened}

-- the sender before its first cell or later, with this number next; and so many cells, all of them unaltered
abbrev before : Bool → ℕ → Sender
before sent number = record { format = 0x5A; channels = 5; order = 0; number = number; wanted = false; second = 0; sent = sent }

abbrev all_unaltered : ℕ → List (ℕ × Fate)
all_unaltered n = replicate n (1, unaltered 0)

-- each of them is sent
none_refused : (b : Bool) (k : ℕ) → k ≤ 15 → S.send_refusal (before b k) false (1 ∷ 0 ∷ 0 ∷ 0 ∷ 0 ∷ []) (replicate 5 0) 48 ≡ 0
unfolding opened
none_refused b k low = rw (le-ltb 15 k low)

is_sent : (b : Bool) (k : ℕ) → k ≤ 15 → (sending (before b k) 1).answer.refusal ≡ 0
unfolding S.sent_of
is_sent b k low = rw (none_refused b k low)

goes_on : (b : Bool) (k : ℕ) → k ≤ 15 → (sending (before b k) 1).answer.state ≡ before true ((k + 1) % 16)
unfolding S.sent_of S.after S.second_now
goes_on b k low = rw (none_refused b k low)

all_written : (n : ℕ) (b : Bool) (k : ℕ) → k ≤ 15
    → sends (before b k) (all_unaltered n) ≡ wrote (sends (before b k) (all_unaltered n))
unfolding trips wrote
all_written zero b k low = refl
all_written (suc n) b k low =
    let next : (k + 1) % 16 ≤ 15 = le_of_suc-le-suc (mod-lt _ (omega arith)) in
    rw (eq-eqb _ 0 (is_sent b k low))
    (ap (λ (l : List SendCall). sending (before b k) 1 ∷ l)
    (subst (λ (st : Sender). sends st (all_unaltered n) ≡ wrote (sends st (all_unaltered n))) (sym (goes_on b k low))
    (all_written n true ((k + 1) % 16) next)))

-- none is lost, and the last stands at the row's end
as_many : (n : ℕ) (st : Sender) → length (trips st (all_unaltered n)) ≡ n
unfolding trips
as_many zero st = refl
as_many (suc n) st = ap (λ (m : ℕ). suc m) (as_many n (sending st 1).answer.state)

all_fair : (n : ℕ) (st : Sender) → Each (λ t. Fair 3 t.sent t.fate) (trips st (all_unaltered n))
unfolding trips Each
all_fair zero st = tt
all_fair (suc n) st = (tt, all_fair n (sending st 1).answer.state)

none_lost : (n : ℕ) (st : Sender) → longest 0 (trips st (all_unaltered n)) ≤ 14
unfolding trips longest
none_lost zero st = omega arith
none_lost (suc n) st = let rest = none_lost n (sending st 1).answer.state in omega arith

past_all : (n : ℕ) (st : Sender) → length (to_last (trips st (all_unaltered n))) ≡ n
unfolding trips to_last all_lost
past_all zero st = refl
past_all (suc n) st = ap (λ (m : ℕ). suc m) (past_all n (sending st 1).answer.state)

from_first_lem : (n : ℕ) (st : Sender) → from_first (trips st (all_unaltered n)) ≡ trips st (all_unaltered n)
unfolding trips from_first
from_first_lem zero st = refl
from_first_lem (suc n) st = refl

pub at_most_so_many : (n : ℕ) → Demand3 3 14 n MeetsSend MeetsReceive → n ≤ 4294967295
at_most_so_many n meets =
    let calls = receives fresh (arrivals (trips studio (all_unaltered n))) in
    let kept = honest_plays 3 14 n meets (all_unaltered n) (all_written n false 0 (omega arith))
    (subst (λ (m : ℕ). m ≤ n) (sym (as_many n studio)) (le_refl n)) (all_fair n studio) (none_lost n studio) in
    let counts : (left_by fresh calls).count ≡ n
    = kept.counted ∙ ap (λ ts. length (to_last ts)) (from_first_lem n studio) ∙ past_all n studio in
    let low : (left_by fresh calls).count ≤ 4294967295 = count_within fresh calls (omega arith) (receives_in_a_row fresh _) in
    subst (λ (m : ℕ). m ≤ 4294967295) counts low

pub not_one_cell_more : Demand3 3 14 4294967296 MeetsSend MeetsReceive → ⊥
not_one_cell_more meets = let few = at_most_so_many 4294967296 meets in omega arith
