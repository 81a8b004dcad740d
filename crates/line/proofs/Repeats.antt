-- The same cell once more: what a receiver says to it that has just taken it.
-- Assumes nothing.
use mathlib.Core.Bool.{Bool, cond}
use mathlib.Core.List.{List, [], ◌∷◌}
use mathlib.Core.Path.{◌≡◌, refl, sym, ◌∙◌, ap}
use Prim.Native.Nat.{ℕ, ◌+◌, ◌*◌, ◌%◌, ◌-◌, ◌<◌}
use native.Mathlib.Nat.{mod-eq_of_lt, suc-ne-zero}
use native.Mathlib.Omega.{arith}
use borrow.Author.Tests.{ne_eqb, eq-eqb}
use lib.Dec.{eqb, ltb}
use lib.ListN.{length}
use Rattle.runs.proofs.Laws.{then_later, past}
use Rattle.formats.specs.Formats.{format_of}
use Rattle.numbers.specs.Numbers.{refusal_of, difference_of, indication_refused}
use Rattle.receiver.specs.declared.Receiver.{Receiver}
use Rattle.receiver.specs.Receiver as R
use Rattle.receiver.proofs.Laws as RL
use Rattle.receiver.proofs.Onward.{number_to, after_passes}
use Rattle.line.specs.Calls.{SendCall, ReceiveCall, MeetsReceive}
use Rattle.line.specs.Demands.{receive_table}
use Rattle.line.specs.Line.{unaltered, spoiled, arrival_of, taken}
use Rattle.line.proofs.Calls.{receives_or_nothing}
use Rattle.line.proofs.Cells.{received_refusal}

-- Without copies what arrives is what arrived before request 10, and so is demand 3.
pub without_copies : (s : SendCall) (came : List ℕ) (indication : Bool)
    → (arrival_of s (spoiled came indication 0) ≡ record { cell = came; indication = indication } ∷ [])
    × (arrival_of s (unaltered 0) ≡ record { cell = s.written; indication = s.indication } ∷ [])
without_copies s came indication = (refl, refl)

-- what is left of the table where checks 1 to 8 refuse nothing
pub late : (st : Receiver) (cell : List ℕ) (indication : Bool) (samples ancillary marks : ℕ) → R.state_refusal st ≡ 0
    → length cell ≡ 48 → ancillary ≡ samples → marks ≡ samples → refusal_of (R.found_now st cell) ≡ 0
    → R.receive_refusal st cell indication samples ancillary marks
    ≡ cond (indication_refused (R.number_now st cell) indication) 15
    (cond (eqb (R.gap_of st cell) 0) 9
    (cond (ltb 4294967295 (R.count_after st cell)) 20 (cond (ltb samples (R.gap_of st cell * R.used_now st)) 10 0)))
unfolding R.receive_refusal R.lengths_refused
late st cell indication samples ancillary marks state whole ancillary_equal marks_equal found =
    then_later _ state ∙ rw (eq-eqb _ _ whole, eq-eqb _ _ ancillary_equal, eq-eqb _ _ marks_equal) (then_later _ found)

-- two equal numbers differ by 0
no_difference : {n : ℕ} → n < 16 → difference_of n n ≡ 0
unfolding difference_of
no_difference {n} low =
    let small : n % 16 ≡ n = mod-eq_of_lt low in
    let whole : n + (16 - n) ≡ 16 = omega arith in
    ap (λ (k : ℕ). (n + (16 - k)) % 16) small ∙ ap (λ (k : ℕ). k % 16) whole

-- a state after a cell with overhead was taken
module _ (st : Receiver) (cell : List ℕ) (with_overhead : (format_of st.format).overhead_bits ≡ 0 → ⊥) where
  no_gap : R.gap_of (R.after st cell) cell ≡ 0
  unfolding R.after R.found_now
  no_gap =
      let low : R.number_now st cell < 16 = omega (arith, number_to st cell) in
      RL.gap_by (R.after st cell) cell refl (ne_eqb _ 0 with_overhead) refl ∙ no_difference low

  -- it refuses that cell, with the indication that it had, by 9
  again_9 : (indication : Bool) (samples ancillary marks room : ℕ)
      → R.receive_refusal st cell indication samples ancillary marks ≡ 0
      → R.receive_refusal (R.after st cell) cell indication room room room ≡ 9
  unfolding R.after R.found_now
  again_9 indication samples ancillary marks room none =
      let passed = RL.passes st cell indication samples ancillary marks none in
      let early = passed.early in
      let here = late st cell indication samples ancillary marks early.state_none early.whole early.ancillary_length
      early.marks_length passed.found in
      let rightly = (past (indication_refused (R.number_now st cell) indication) 14 _ (sym here ∙ none)).0 in
      let state = after_passes st cell early.state_none in
      late (R.after st cell) cell indication room room room state early.whole refl refl passed.found
      ∙ rw (rightly, eq-eqb _ 0 no_gap)

-- Two calls in a row on one cell with one indication, in a format with overhead: where the first takes it, the second refuses it
-- by 9 and leaves the state as it was. It needs no room.
pub repeat_gets_9 : (c d : ReceiveCall) → MeetsReceive c → c.answer.refusal ≡ 0
    → ((format_of c.state.format).overhead_bits ≡ 0 → ⊥)
    → d.state ≡ c.answer.state → taken d ≡ taken c
    → length d.ancillary ≡ length d.samples → length d.marks ≡ length d.samples
    → MeetsReceive d → (d.answer.refusal ≡ 9) × (d.answer.state ≡ c.answer.state)
unfolding R.received_of
repeat_gets_9 c d takes none with_overhead next same ancillary_equal marks_equal receives =
    let table : receive_table c ≡ 0 = sym (received_refusal c takes) ∙ none in
    let state : c.answer.state ≡ R.after c.state c.cell = ap (λ x. x.state) takes.answered ∙ rw table in
    let nine : d.answer.refusal ≡ 9
    = received_refusal d receives
    ∙ (λ i.
    R.receive_refusal ((next ∙ state) i) (same i).cell (same i).indication (length d.samples) (ancillary_equal i) (marks_equal i))
    ∙ again_9 c.state c.cell with_overhead c.indication _ _ _ (length d.samples) table in
    (nine, ((receives_or_nothing d receives).then_nothing (λ e. suc-ne-zero 8 (sym nine ∙ e))).nothing_answered.state_as_given ∙ next)
