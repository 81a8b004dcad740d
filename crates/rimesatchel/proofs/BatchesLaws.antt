-- What the promises over many records leave of a state as octets.
-- Assumes nothing.
use mathlib.Core.List.{List}
use mathlib.Core.Path.{◌≡◌, refl, sym, ◌∙◌, ap, subst}
use Prim.Native.Nat.{ℕ}
use borrow.Author.Tests.{ne_eqb}
use Rattle.receiver.specs.declared.Receiver.{Receiver}
use Rattle.hearing.specs.declared.judging.Judged.{Judged}
use Rattle.hearing.specs.Judging.{Judges}
use Rattle.hearing.specs.declared.receiving.Batch.{Batch}
use Rattle.hearing.specs.Receiving.{ReceivesLog}
use Rattle.rimesatchel.specs.Batches.{judged_here, judged_numbers, JudgedOctets, received_log_here, batch_numbers, ReceivedLogOctets}
use Rattle.rimesatchel.specs.Boxes.{receiver_of, receiver_octets, state_after}

module _ (state log : List ℕ) (place : ℕ) (reports : List ℕ) {st : Receiver} {answer : Judged} {reports₁ : List ℕ} (is : st ≡ receiver_of state)
    (judges : Judges st log place reports answer reports₁)
  where
    here : Judges (receiver_of state) log place reports answer reports₁
    here = subst (λ (x : Receiver). Judges x log place reports answer reports₁) is judges

    answer_is : answer ≡ judged_here state log place reports
    answer_is = here.answered

    refusal_is : answer.refusal ≡ (judged_here state log place reports).refusal
    refusal_is = ap (λ (a : Judged). a.refusal) answer_is

    octets_are : {refusal : ℕ} {left : List ℕ} → refusal ≡ answer.refusal
        → left ≡ state_after (judged_here state log place reports).refusal (receiver_octets (judged_here state log place reports).state) state
        → JudgedOctets state log place reports refusal left reports₁ (judged_numbers answer)
    octets_are e l =
        record {
          refused = e ∙ refusal_is;
          leaves = l;
          counted = ap judged_numbers answer_is;
          judges = subst (λ (a : Judged). Judges (receiver_of state) log place reports a reports₁) answer_is here;
        }

    pub judged_refused : (answer.refusal ≡ 0 → ⊥) → JudgedOctets state log place reports answer.refusal state reports₁ (judged_numbers answer)
    judged_refused some = octets_are refl (rw (ne_eqb _ 0 (λ e. some (refusal_is ∙ e))))

    pub judged_taken : answer.refusal ≡ 0 → {left : List ℕ} → left ≡ receiver_octets answer.state
        → JudgedOctets state log place reports 0 left reports₁ (judged_numbers answer)
    judged_taken none l =
        octets_are (sym none) (rw (sym refusal_is ∙ none) (l ∙ ap (λ (a : Judged). receiver_octets a.state) answer_is))

module _ (state log : List ℕ) (place : ℕ) (samples ancillary marks : List ℕ) {st : Receiver} {answer : Batch} {samples₁ ancillary₁ marks₁ : List ℕ}
    (is : st ≡ receiver_of state) (receives : ReceivesLog st log place samples ancillary marks answer samples₁ ancillary₁ marks₁)
  where
    there : ReceivesLog (receiver_of state) log place samples ancillary marks answer samples₁ ancillary₁ marks₁
    there = subst (λ (x : Receiver). ReceivesLog x log place samples ancillary marks answer samples₁ ancillary₁ marks₁) is receives

    batch_is : answer ≡ received_log_here state log place samples ancillary marks
    batch_is = there.answered

    batch_refusal_lem : answer.refusal ≡ (received_log_here state log place samples ancillary marks).refusal
    batch_refusal_lem = ap (λ (a : Batch). a.refusal) batch_is

    batch_octets : {refusal : ℕ} {left : List ℕ} → refusal ≡ answer.refusal
        → left
        ≡ state_after (received_log_here state log place samples ancillary marks).refusal
        (receiver_octets (received_log_here state log place samples ancillary marks).state) state
        → ReceivedLogOctets state log place samples ancillary marks refusal left samples₁ ancillary₁ marks₁ (batch_numbers answer)
    batch_octets e l =
        record {
          refused = e ∙ batch_refusal_lem;
          leaves = l;
          counted = ap batch_numbers batch_is;
          receives =
              subst (λ (a : Batch). ReceivesLog (receiver_of state) log place samples ancillary marks a samples₁ ancillary₁ marks₁) batch_is there;
        }

    pub batch_refused : (answer.refusal ≡ 0 → ⊥)
        → ReceivedLogOctets state log place samples ancillary marks answer.refusal state samples₁ ancillary₁ marks₁ (batch_numbers answer)
    batch_refused some = batch_octets refl (rw (ne_eqb _ 0 (λ e. some (batch_refusal_lem ∙ e))))

    pub batch_taken : answer.refusal ≡ 0 → {left : List ℕ} → left ≡ receiver_octets answer.state
        → ReceivedLogOctets state log place samples ancillary marks 0 left samples₁ ancillary₁ marks₁ (batch_numbers answer)
    batch_taken none l =
        batch_octets (sym none) (rw (sym batch_refusal_lem ∙ none) (l ∙ ap (λ (a : Batch). receiver_octets a.state) batch_is))
