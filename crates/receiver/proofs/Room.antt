-- Three runs of fifteen times C×T entries have room for every cell, so that 10 isn't given; 720 entries are enough for every state.
-- Assumes nothing.
use mathlib.Core.Bool.{Bool, true, false, cond, not, ◌||◌}
use mathlib.Core.List.{List}
use mathlib.Core.Path.{◌≡◌, sym, ◌∙◌}
use Prim.Native.Nat.{ℕ, ◌*◌, ◌≤◌}
use native.Mathlib.Nat.{le_trans, mul-div-le, mul-le-mul_right}
use native.Mathlib.Omega.{arith}
use borrow.Author.Tests.{le-ltb}
use lib.Dec.{eqb, ltb}
use lib.ListN.{length}
use Rattle.std.specs.Prelude.{Option, Some, None}
use Rattle.runs.specs.Refusals.{or_else}
use Rattle.runs.proofs.Laws.{split}
use Rattle.formats.specs.Formats.{format_of, is_listed, slots_of, settings_refusal}
use Rattle.formats.proofs.Laws.{sound_format}
use Rattle.numbers.specs.Numbers.{refusal_of, indication_refused}
use Rattle.receiver.specs.declared.Receiver.{Receiver}
use Rattle.receiver.specs.Receiver.{
  gap_of,
  count_after,
  used_now,
  found_now,
  number_now,
  last_refused,
  count_refused,
  lengths_refused,
  state_refusal,
  receive_refusal,
  judged_of,
}
use Rattle.receiver.proofs.Laws.{gap_to, answer_refusal}

-- a number that neither way of a test gives
pub not_so : (test : Bool) {k n rest : ℕ} → (n ≡ k → ⊥) → (rest ≡ k → ⊥) → cond test n rest ≡ k → ⊥
not_so true other later e = other e
not_so false other later e = later e

-- no check refuses by a number above its own
at_most : (test : Bool) {k n rest : ℕ} → n ≤ k → rest ≤ k → cond test n rest ≤ k
at_most true here there = here
at_most false here there = there

settings_to : (octet channels order : ℕ) → settings_refusal octet channels order ≤ 3
unfolding settings_refusal
settings_to octet channels order =
    at_most (not (is_listed octet)) (omega arith)
    (at_most (eqb channels 0 || ltb (slots_of octet) channels) (omega arith) (at_most (ltb 1 order) (omega arith) (omega arith)))

pub state_to : (st : Receiver) → state_refusal st ≤ 4
unfolding state_refusal or_else
state_to st =
    at_most (eqb (settings_refusal st.format st.channels st.order) 0)
    (at_most (last_refused st || count_refused st) (omega arith) (omega arith))
    (omega (arith, settings_to st.format st.channels st.order))

pub found_to : (found : Option ℕ) → refusal_of found ≤ 8
unfolding refusal_of
found_to (Some n) = omega arith
found_to None = omega arith

pub always_room : (st : Receiver) (cell : List ℕ) (indication : Bool) (samples ancillary marks : ℕ) → 15 * used_now st ≤ samples
    → receive_refusal st cell indication samples ancillary marks ≡ 10 → ⊥
unfolding receive_refusal or_else
always_room st cell indication samples ancillary marks enough =
    let room : gap_of st cell * used_now st ≤ samples
    = le_trans (mul-le-mul_right (used_now st) (gap_to st cell)) enough in
    rw (le-ltb samples _ room)
    (not_so (eqb (state_refusal st) 0)
    (not_so (lengths_refused (length cell) samples ancillary marks) (λ e. omega arith)
    (not_so (eqb (refusal_of (found_now st cell)) 0)
    (not_so (indication_refused (number_now st cell) indication) (λ e. omega arith)
    (not_so (eqb (gap_of st cell) 0) (λ e. omega arith)
    (not_so (ltb 4294967295 (count_after st cell)) (λ e. omega arith) (λ e. omega arith))))
    (λ e. omega (arith, found_to (found_now st cell)))))
    (λ e. omega (arith, state_to st)))

slots_few : (octet : ℕ) → (format_of octet).slots ≤ 48
unfolding format_of
slots_few octet = split (is_listed octet) (λ e. (sound_format octet e).slots_to) (λ e. rw e (omega arith))

used_few : (st : Receiver) → used_now st ≤ 48
used_few st = omega (arith, mul-div-le (format_of st.format).slots st.channels, slots_few st.format)

pub room_in_720 : (st : Receiver) (cell : List ℕ) (indication : Bool) (samples ancillary marks : ℕ) → 720 ≤ samples
    → receive_refusal st cell indication samples ancillary marks ≡ 10 → ⊥
room_in_720 st cell indication samples ancillary marks enough =
    always_room st cell indication samples ancillary marks (omega (arith, used_few st))

-- so 10 is never said of a cell that is judged with that room
pub never_10 : (st : Receiver) (cell : List ℕ) (indication : Bool) → (judged_of st cell indication).refusal ≡ 10 → ⊥
unfolding judged_of
never_10 st cell indication ten =
    room_in_720 st cell indication 720 720 720 (omega arith) (sym (answer_refusal st cell indication 720 720 720) ∙ ten)
