-- A state is refused where a call on it is: what the answer to a cell of 48 octets says of it.
-- Assumes nothing.
use mathlib.Core.Bool.{true, false, true≢false, not}
use mathlib.Core.List.{List}
use mathlib.Core.Path.{◌≡◌, sym, ◌∙◌, ap}
use Prim.Native.Nat.{ℕ, ◌<◌}
use native.Mathlib.Omega.{arith}
use borrow.Author.Tests.{eq-eqb, eqb-true, eqb-false, lt-ltb, ltb-true, ne_eqb, not-true}
use lib.Dec.{eqb, ltb}
use lib.ListN.{length}
use Rattle.runs.specs.Runs.{over}
use Rattle.runs.proofs.Laws.{split, first_refuses, both_true}
use Rattle.receiver.specs.declared.Receiver.{Receiver}
use Rattle.receiver.specs.declared.Received.{Received}
use Rattle.receiver.specs.Receiver.{state_refusal, receive_refusal, judged_of}
use Rattle.receiver.proofs.Laws.{answer_refusal}
use Rattle.receiver.proofs.Onward.{one_of_five, says_one_of_five}
use Rattle.receiver.proofs.Room.{state_to}
use Rattle.hearing.specs.Code.{is_of_state}
use Rattle.hearing.specs.Judging.{judged_not, Judges, JudgesOn}
use Rattle.hearing.specs.declared.judging.Judged.{Judged}

-- 1 to 4 are
of_state : (n : ℕ) → (n ≡ 0 → ⊥) → n < 5 → is_of_state n ≡ true
of_state n some small = rw (ne_eqb n 0 some, lt-ltb n 5 small)

-- 0, 8, 9, 15 and 20 aren't
five_not : (n : ℕ) → one_of_five n ≡ 1 → is_of_state n ≡ false
five_not n one = split (is_of_state n) (λ e. absurd (none e)) (λ e. e)
  where
    none : is_of_state n ≡ true → ⊥
    none e =
        let b = both_true (not (eqb n 0)) (ltb n 5) e in
        let some : n ≡ 0 → ⊥ = eqb-false n 0 (not-true (eqb n 0) b.0) in
        let small : n < 5 = ltb-true n 5 b.1 in
        let is : ◌≡◌ {A = ℕ} 0 1 =
        rw (ne_eqb n 0 some, ne_eqb n 8 (λ z. omega (arith, z)), ne_eqb n 9 (λ z. omega (arith, z)), ne_eqb n 15 (λ z. omega (arith, z)), ne_eqb n 20 (λ z. omega (arith, z))) at one in
        omega (arith, is)

module _ (st : Receiver) (cell : List ℕ) (whole : length cell ≡ 48) {got : Received} (answer : got ≡ judged_of st cell false) where
  refused_first : (state_refusal st ≡ 0 → ⊥) → got.refusal ≡ state_refusal st
  unfolding judged_of receive_refusal
  refused_first some =
      ap (λ (r : Received). r.refusal) answer ∙ answer_refusal st cell false 720 720 720 ∙ first_refuses _ some

  pub state_refused : is_of_state got.refusal ≡ true → (got.refusal ≡ state_refusal st) × (state_refusal st ≡ 0 → ⊥)
  state_refused e =
      let some : state_refusal st ≡ 0 → ⊥ =
      λ z. true≢false (sym e ∙ ap (λ (r : Received). is_of_state r.refusal) answer ∙ five_not (judged_of st cell false).refusal (says_one_of_five st cell false z whole)) in
      (refused_first some, some)

  pub state_sound : is_of_state got.refusal ≡ false → state_refusal st ≡ 0
  state_sound e =
      split (eqb (state_refusal st) 0) (eqb-true (state_refusal st) 0)
      (λ z.
      let some = eqb-false (state_refusal st) 0 z in
      absurd (true≢false (sym (of_state (state_refusal st) some (omega (arith, state_to st))) ∙ ap is_of_state (sym (refused_first some)) ∙ e)))

-- the whole promise, by the two ways
module _ {st : Receiver} {log : List ℕ} {place : ℕ} {reports : List ℕ} where
  pub judges_not : {refusal : ℕ} → refusal ≡ state_refusal st → (state_refusal st ≡ 0 → ⊥) → {answer : Judged} → answer ≡ judged_not refusal st
      → Judges st log place reports answer reports
  unfolding over
  judges_not e some a =
      record {
        answered = a ∙ ap (λ (n : ℕ). judged_not n st) e ∙ rw (ne_eqb (state_refusal st) 0 some);
        reports_after = rw (ne_eqb (state_refusal st) 0 some);
      }

  pub judges_on : state_refusal st ≡ 0 → {answer : Judged} {reports₁ : List ℕ} → JudgesOn st log place reports answer reports₁
      → Judges st log place reports answer reports₁
  judges_on none j =
      record {
        answered = j.answered ∙ rw (eq-eqb (state_refusal st) 0 none);
        reports_after = j.reports_after ∙ rw (eq-eqb (state_refusal st) 0 none);
      }
