-- States that checks 1 to 4 pass: what a call leaves of one passes them too, and what is then said to a cell where there is room.
-- Assumes nothing.
use mathlib.Core.Bool.{Bool, true, false, cond, not, ◌&&◌}
use mathlib.Core.List.{List}
use mathlib.Core.Path.{◌≡◌, refl, sym, ◌∙◌, ap, subst}
use Prim.Native.Nat.{ℕ, ◌+◌, ◌*◌, ◌≤◌, ◌<◌}
use native.Mathlib.Nat.{mul-le-mul_left, mul-le-mul_right, div-add-mod', mod-lt}
use native.Mathlib.Omega.{arith}
use borrow.Author.Tests.{eq-eqb, le-ltb, eqb-false}
use lib.Dec.{eqb, ltb}
use lib.ListN.{length}
use Rattle.std.specs.Prelude.{Option, Some, None}
use Rattle.runs.specs.Refusals.{or_else}
use Rattle.runs.proofs.Laws.{split, then_later, past_both}
use Rattle.formats.specs.Formats.{format_of, settings_refusal}
use Rattle.formats.proofs.Laws.{settled_limits}
use Rattle.numbers.specs.Numbers.{refusal_of, value_of, indication_refused}
use Rattle.numbers.proofs.Laws.{value_lt}
use Rattle.cells.specs.Cells.{eight_in}
use Rattle.cells.specs.Placement.{used_of}
use Rattle.receiver.specs.declared.Receiver.{Receiver}
use Rattle.receiver.specs.Receiver.{
  opened_of,
  last_refused,
  count_refused,
  state_refusal,
  times_now,
  used_now,
  lengths_refused,
  found_now,
  number_now,
  gap_of,
  count_after,
  receive_refusal,
  after,
  judged_of,
}
use Rattle.receiver.proofs.Laws.{gap_to, found_over, answer_refusal}

-- an opening that isn't refused
module _ (octet channels order : ℕ) (none : settings_refusal octet channels order ≡ 0) where
  pub opened_passes : state_refusal (opened_of octet channels order).state ≡ 0
  unfolding opened_of state_refusal last_refused count_refused or_else
  opened_passes = rw (none, none)

  pub opened_used : used_now (opened_of octet channels order).state ≡ used_of octet channels
  unfolding opened_of
  opened_used = rw none

-- behind a cell
module _ (st : Receiver) (cell : List ℕ) where
  pub number_to : number_now st cell ≤ 15
  unfolding found_now value_of
  number_to =
      split (eqb (format_of st.format).overhead_bits 0)
      (λ e. rw e (omega arith))
      (λ e.
      let eight = eight_in (format_of st.format) cell in
      let low = subst (λ found. value_of found < 16) (sym (found_over st cell refl (eqb-false _ 0 e))) (value_lt eight) in
      omega (arith, low))

  bare_number : eqb (format_of st.format).overhead_bits 0 ≡ true → number_now st cell ≡ 0
  unfolding found_now value_of
  bare_number e = rw e

  last_passes : last_refused (after st cell) ≡ false
  unfolding last_refused after
  last_passes =
      split (eqb (format_of st.format).overhead_bits 0)
      (λ e. rw (bare_number e) refl)
      (λ e. rw (le-ltb 15 _ number_to, e) (and_false (not (eqb (number_now st cell) 0))))
    where
      and_false : (b : Bool) → b && false ≡ false
      and_false true = refl
      and_false false = refl

  pub after_passes : state_refusal st ≡ 0 → state_refusal (after st cell) ≡ 0
  unfolding state_refusal count_refused after
  after_passes none =
      then_later _ (past_both (settings_refusal st.format st.channels st.order) _ none).0 ∙ rw last_passes

-- C×T is five at least, in 5A hex with five channels, and 48 at most
pub used_between : (st : Receiver) → state_refusal st ≡ 0 → (5 ≤ used_now st) × (used_now st ≤ 48)
unfolding state_refusal
used_between st none =
    let settings = (past_both (settings_refusal st.format st.channels st.order) _ none).0 in
    let limits = settled_limits st.format st.channels st.order refl settings in
    let slots : ℕ = (format_of st.format).slots in
    let more : st.channels * 1 ≤ st.channels * times_now st = mul-le-mul_left st.channels limits.times_from in
    let left = mod-lt slots limits.channels_from in
    (omega (arith, more, limits.sound.slots_from, div-add-mod' slots st.channels, left), limits.used_to)

-- how many of the numbers 0 (which is none), 8, 9, 15 and 20 a refusal is
abbrev pub one_of_five : ℕ → ℕ
one_of_five refusal =
    cond (eqb refusal 0) 1 0 + cond (eqb refusal 8) 1 0 + cond (eqb refusal 9) 1 0 + cond (eqb refusal 15) 1 0
    + cond (eqb refusal 20) 1 0

either : (test : Bool) (n rest : ℕ) → one_of_five n ≡ 1 → one_of_five rest ≡ 1 → one_of_five (cond test n rest) ≡ 1
either true n rest here there = here
either false n rest here there = there

found_or : (found : Option ℕ) (rest : ℕ) → one_of_five rest ≡ 1 → one_of_five (or_else (refusal_of found) rest) ≡ 1
unfolding or_else refusal_of
found_or (Some n) rest there = there
found_or None rest there = refl

-- these are all that a receiver with room can say to a cell of 48 octets
pub says_one_of_five : (st : Receiver) (cell : List ℕ) (indication : Bool) → state_refusal st ≡ 0 → length cell ≡ 48
    → one_of_five (judged_of st cell indication).refusal ≡ 1
unfolding judged_of receive_refusal lengths_refused
says_one_of_five st cell indication none whole =
    let used = (used_between st none).1 in
    let gap : gap_of st cell * used_now st ≤ 15 * used_now st = mul-le-mul_right (used_now st) (gap_to st cell) in
    ap one_of_five (answer_refusal st cell indication 720 720 720 ∙ then_later _ none)
    ∙ rw (eq-eqb _ _ whole, le-ltb 720 (gap_of st cell * used_now st) (omega (arith, gap, used)))
    (found_or (found_now st cell) _
    (either (indication_refused (number_now st cell) indication) 15 _ refl
    (either (eqb (gap_of st cell) 0) 9 _ refl (either (ltb 4294967295 (count_after st cell)) 20 0 refl refl))))
