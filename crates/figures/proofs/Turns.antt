-- Laws of a cell that comes next in turn: the receiver takes it, and nothing is missing before it.
-- Assumes nothing.
use mathlib.Core.Bool.{Bool, true, false, not, ◌&&◌, ◌||◌}
use mathlib.Core.List.{List}
use mathlib.Core.Logic.{⊎_elim}
use mathlib.Core.Path.{◌≡◌, refl, sym, ◌∙◌, ap, subst}
use Prim.Native.Nat.{ℕ, ◌+◌, ◌*◌, ◌/◌, ◌%◌, ◌-◌, ◌^◌, ◌≤◌, ◌<◌}
use native.Mathlib.Nat.{mod-lt, eq-or-lt_of_le}
use native.Mathlib.Omega.{arith}
use borrow.Author.Tests.{eq-eqb, ne_eqb, le-ltb}
use lib.Dec.{eqb}
use lib.ListN.{length, get_or}
use Rattle.std.specs.Prelude.{Some}
use Rattle.formats.specs.declared.Format.{Format}
use Rattle.formats.specs.Settled.{Settled}
use Rattle.formats.specs.Formats.{format_of}
use Rattle.formats.specs.Settings.{settings_of}
use Rattle.formats.specs.Sound.{Sound, Limits}
use Rattle.formats.proofs.Laws.{limits_of}
use Rattle.numbers.specs.Code.{sequence_of}
use Rattle.numbers.specs.Numbers.{entry_of, found_of, word_bit, difference_of, indication_refused}
use Rattle.numbers.proofs.Laws.{sequence_bit, gathered_same, eight_back, entry_lt, entry_found}
use Rattle.cells.specs.Cells.{subframe_at, bit_in, eight_in}
use Rattle.cells.proofs.Subframes.{slot_room}
use Rattle.receiver.specs.declared.Receiver.{Receiver}
use Rattle.receiver.specs.Receiver.{last_refused, count_refused, lengths_refused, found_now, gap_of, second_now, judged_of}
use Rattle.receiver.specs.Unpacking.{used_in, early_refusal, late_refusal, taken_as}
use Rattle.receiver.proofs.Laws.{settled_format, early_5, judged_limits, judged_0, found_over, gap_by, number_found}
use Rattle.receiver.proofs.Reading.{last_bit}
use Rattle.figures.specs.Stretch.{told_of, next_told, Waits}

-- a cell whose number is found and that comes next, in a state that no check refuses
module _ (st : Receiver) (cell : List ℕ) (indication : Bool) {set : Settled}
    (settles : set ≡ settings_of st.format st.channels st.order) (taken : set.refusal ≡ 0)
    (fourth : false ≡ (last_refused st || count_refused st)) (whole : length cell ≡ 48) {number : ℕ}
    (found : Some number ≡ found_now st cell) (rightly : false ≡ indication_refused number indication) (one : 1 ≡ gap_of st cell)
    (goes_on : st.count + 1 ≤ 4294967295)
  where
    lengths : false ≡ lengths_refused (length cell) 720 720 720
    unfolding lengths_refused
    lengths = sym (rw (eq-eqb (length cell) 48 whole) refl)

    early : early_refusal st (length cell) 720 720 720 ≡ 0
    early = sym (early_5 st settles (length cell) 720 720 720 taken fourth lengths)

    limits : Limits set
    limits = judged_limits st cell indication 720 settles early

    late : 0 ≡ late_refusal 1 st.count 720 (1 * used_in set)
    unfolding late_refusal
    late =
        let few : 1 * used_in set ≤ 720 = omega (arith, limits.used_to) in
        sym (rw (le-ltb 4294967295 (st.count + 1) goes_on, le-ltb 720 (1 * used_in set) few) refl)

    pub takes_next : taken_as st 0 number (second_now st cell) indication (st.count + 1) ≡ judged_of st cell indication
    unfolding judged_of
    takes_next = judged_0 st cell indication 720 settles early found rightly one late refl

-- a test before one that fails
and_false : (b : Bool) → b && false ≡ false
and_false true = refl
and_false false = refl

-- where the format has overhead: its first eight sequencing bits are those of the next number
module _ (st : Receiver) (cell : List ℕ) {set : Settled}
    (settles : set ≡ settings_of st.format st.channels st.order) (whole : length cell ≡ 48) (waits : Waits set st)
    (over : set.format.overhead_bits ≡ 0 → ⊥) {sequence : ℕ} (expected : sequence ≡ sequence_of (entry_of ((st.last + 1) % 16)) 0)
    (bits : (slot : ℕ) → slot < 8 → bit_in set.format cell slot ≡ sequence / 2 ^ slot % 2)
  where
    abbrev number : ℕ
    number = (st.last + 1) % 16

    low : number < 16
    low = mod-lt (st.last + 1) (omega arith)

    word_lt : entry_of number < 256
    word_lt = entry_lt low

    format_is : format_of st.format ≡ set.format
    format_is = sym (settled_format st settles waits.taken)

    eight_is : eight_in set.format cell ≡ entry_of number
    unfolding eight_in
    eight_is =
        gathered_same (bit_in set.format cell) (word_bit (entry_of number) 0) 8
        (λ slot less.
        bits slot less
        ∙ ap (λ (n : ℕ). n / 2 ^ slot % 2) expected
        ∙ sequence_bit slot word_lt (omega arith))
        ∙ eight_back 0 word_lt

    found : Some number ≡ found_now st cell
    found = sym (found_over st cell format_is over ∙ ap found_of eight_is ∙ entry_found low)

    with_overhead : eqb (format_of st.format).overhead_bits 0 ≡ false
    with_overhead = ap (λ (f : Format). eqb f.overhead_bits 0) format_is ∙ ne_eqb set.format.overhead_bits 0 over

    one : 1 ≡ gap_of st cell
    unfolding difference_of
    one =
        let gap = gap_by st cell waits.started with_overhead (sym (number_found st cell found)) in
        let last_to = waits.last_to in
        sym (gap ∙ omega (arith, last_to))

    fourth : false ≡ (last_refused st || count_refused st)
    unfolding last_refused count_refused
    fourth =
        sym (rw (le-ltb 15 st.last waits.last_to, waits.started, with_overhead, and_false (not (eqb st.last 0))) refl)

    rightly : false ≡ indication_refused number false
    unfolding indication_refused
    rightly = refl

    pub in_turn : told_of (judged_of st cell false) ≡ next_told st
    in_turn =
        ap told_of
        (sym (takes_next st cell false settles waits.taken fourth whole found rightly one (omega (arith, waits.goes_on))))

-- what a state that waits settles
pub waits_sound : (st : Receiver) {set : Settled} → set ≡ settings_of st.format st.channels st.order → Waits set st
    → Sound set.format
waits_sound st settles waits = (limits_of st.format st.channels st.order settles waits.taken).sound

-- each format has eight slots
pub eight_room : {f : Format} → Sound f → {slot : ℕ} → slot < 8 → slot * f.width + f.width ≤ 48
eight_room s {slot} less = slot_room s {slot = slot} (omega (arith, less, s.slots_from))

-- sequencing bits compared slot by slot
pub record Alike (f : Format) (cell : List ℕ) (sequence slot : ℕ) : Type 0 where
  pub within : slot ≤ 8
  pub same : (k : ℕ) → k < slot → bit_in f cell k ≡ sequence / 2 ^ k % 2

module _ {f : Format} {cell : List ℕ} {sequence : ℕ} where
  pub alike_begun : Alike f cell sequence 0
  alike_begun = record { within = omega arith; same = λ k none. absurd (omega (arith, none)) }

  pub alike_on : {slot : ℕ} → Alike f cell sequence slot → slot < 8 → Sound f → length cell ≡ 48
      → get_or cell (slot * f.width + (f.width - 1)) 0 / 8 % 2 ≡ sequence / 2 ^ slot % 2 → Alike f cell sequence (slot + 1)
  unfolding bit_in subframe_at
  alike_on {slot} so_far less s whole e =
      let here : bit_in f cell slot ≡ sequence / 2 ^ slot % 2 =
      sym (last_bit cell (slot * f.width) s.width_from (omega (arith, eight_room s less, whole))) ∙ e in
      record {
        within = omega arith;
        same = λ k below.
            ⊎_elim
            (λ (last : k ≡ slot). subst (λ (n : ℕ). bit_in f cell n ≡ sequence / 2 ^ n % 2) (sym last) here)
            (λ (before : k < slot). so_far.same k before)
            (eq-or-lt_of_le (omega (arith, below)));
      }

  pub alike_all : {slot : ℕ} → Alike f cell sequence slot → 8 ≤ slot → (k : ℕ) → k < 8 → bit_in f cell k ≡ sequence / 2 ^ k % 2
  alike_all so_far all k below = so_far.same k (omega (arith, all, below))
