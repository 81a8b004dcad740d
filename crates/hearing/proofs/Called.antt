-- Laws of a call that receives a log: one that is refused, and one that isn't.
-- Assumes nothing.
use mathlib.Core.Bool.{true, false}
use mathlib.Core.List.{List}
use mathlib.Core.Path.{◌≡◌, refl, sym, ◌∙◌, ap}
use Prim.Native.Nat.{ℕ}
use native.Mathlib.Omega.{arith}
use borrow.Author.Tests.{eq-eqb, ne_eqb}
use lib.Dec.{eqb}
use lib.ListN.{length}
use Rattle.runs.specs.Runs.{over}
use Rattle.runs.proofs.Laws.{first_refuses, then_later, past_both}
use Rattle.formats.specs.Settled.{Settled}
use Rattle.formats.specs.Formats.{settings_refusal}
use Rattle.formats.specs.Settings.{settings_of}
use Rattle.formats.proofs.Laws.{settled_of_lem}
use Rattle.receiver.specs.declared.Receiver.{Receiver}
use Rattle.receiver.specs.Receiver.{state_refusal, used_now}
use Rattle.receiver.specs.Unpacking.{used_in}
use Rattle.hearing.specs.declared.receiving.Batch.{Batch}
use Rattle.hearing.specs.Receiving.{begun_as, call_refusal, ReceivesOn, ReceivesLog}

-- the settings of a state that nothing is wrong with
pub settings_none : (st : Receiver) → state_refusal st ≡ 0 → settings_refusal st.format st.channels st.order ≡ 0
unfolding state_refusal
settings_none st none = (past_both (settings_refusal st.format st.channels st.order) _ none).0

-- C×T by them
pub settings_used : (st : Receiver) → state_refusal st ≡ 0 → {set : Settled} → set ≡ settings_of st.format st.channels st.order
    → used_in set ≡ used_now st
settings_used st none e =
    ap used_in (e ∙ settled_of_lem st.format st.channels st.order (settings_none st none))

-- a call that is refused, and one that isn't
module _ (st : Receiver) (log : List ℕ) (place : ℕ) (samples ancillary marks : List ℕ) where
  abbrev Answers : Batch → List ℕ → List ℕ → List ℕ → Type 0
  Answers = ReceivesLog st log place samples ancillary marks

  abbrev call : ℕ
  call = call_refusal st (length samples) (length ancillary) (length marks)

  answers_not : {n : ℕ} → n ≡ call → (n ≡ 0 → ⊥) → {answer : Batch} → answer ≡ begun_as n st 0 → Answers answer samples ancillary marks
  unfolding over
  answers_not e some a =
      let not_none : eqb call 0 ≡ false = ne_eqb call 0 (λ z. some (e ∙ z)) in
      record {
        answered = a ∙ ap (λ (k : ℕ). begun_as k st 0) e ∙ rw not_none;
        samples_after = rw not_none refl;
        ancillary_after = rw not_none refl;
        marks_after = rw not_none refl;
      }

  pub answers_state : {n : ℕ} → n ≡ state_refusal st → (n ≡ 0 → ⊥) → {answer : Batch} → answer ≡ begun_as n st 0 → Answers answer samples ancillary marks
  unfolding call_refusal
  answers_state e some = answers_not (e ∙ sym (first_refuses _ (λ z. some (e ∙ z)))) some

  module _ (none : state_refusal st ≡ 0) where
    pub answers_ancillary : (length ancillary ≡ length samples → ⊥) → {answer : Batch} → answer ≡ begun_as 5 st 0 → Answers answer samples ancillary marks
    unfolding call_refusal
    answers_ancillary other = answers_not (sym (then_later _ none ∙ rw (ne_eqb _ _ other))) (λ z. omega (arith, z))

    module _ (la : length ancillary ≡ length samples) where
      pub answers_marks : (length marks ≡ length samples → ⊥) → {answer : Batch} → answer ≡ begun_as 5 st 0 → Answers answer samples ancillary marks
      unfolding call_refusal
      answers_marks other = answers_not (sym (then_later _ none ∙ rw (eq-eqb _ _ la, ne_eqb _ _ other))) (λ z. omega (arith, z))

      pub answers_on : length marks ≡ length samples → {answer : Batch} {samples₁ ancillary₁ marks₁ : List ℕ}
          → ReceivesOn st log place samples ancillary marks answer samples₁ ancillary₁ marks₁ → Answers answer samples₁ ancillary₁ marks₁
      unfolding call_refusal
      answers_on lm on =
          let passes : eqb call 0 ≡ true = eq-eqb call 0 (then_later _ none ∙ rw (eq-eqb _ _ la, eq-eqb _ _ lm)) in
          record {
            answered = on.answered ∙ rw passes;
            samples_after = on.samples_after ∙ rw passes;
            ancillary_after = on.ancillary_after ∙ rw passes;
            marks_after = on.marks_after ∙ rw passes;
          }
