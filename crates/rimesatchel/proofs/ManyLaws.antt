-- What the promise of sending many cells leaves of a state as octets.
-- Assumes nothing.
use mathlib.Core.Bool.{Bool}
use mathlib.Core.List.{List}
use mathlib.Core.Path.{◌≡◌, refl, sym, ◌∙◌, ap, subst}
use Prim.Native.Nat.{ℕ}
use borrow.Author.Tests.{ne_eqb}
use Rattle.sender.specs.declared.Sender.{Sender}
use Rattle.sender.specs.declared.many.Batch.{Batch}
use Rattle.sender.specs.Many.{SendsMany}
use Rattle.rimesatchel.specs.Boxes.{sender_of, sender_octets, state_after}
use Rattle.rimesatchel.specs.Many.{batch_here, batch_numbers, SentManyOctets}

module _ (state : List ℕ) (indications : Bool) (samples ancillary log : List ℕ) (place : ℕ) {st : Sender} {answer : Batch} {log₁ : List ℕ}
    (is : st ≡ sender_of state) (sends : SendsMany indications st samples ancillary log place answer log₁)
  where
    here : SendsMany indications (sender_of state) samples ancillary log place answer log₁
    here = subst (λ (x : Sender). SendsMany indications x samples ancillary log place answer log₁) is sends

    abbrev said : Batch
    said = batch_here state indications samples ancillary log place

    refusal_is : answer.refusal ≡ said.refusal
    refusal_is = ap (λ (b : Batch). b.refusal) here.answered

    octets_are : {refusal : ℕ} {left : List ℕ} → refusal ≡ answer.refusal
        → left ≡ state_after said.refusal (sender_octets said.state) state
        → SentManyOctets state indications samples ancillary log place refusal left log₁ (batch_numbers answer)
    octets_are e l =
        record { refused = e ∙ refusal_is; leaves = l; writes = here.log_after_lem; counted = ap batch_numbers here.answered }

    pub many_refused : (answer.refusal ≡ 0 → ⊥)
        → SentManyOctets state indications samples ancillary log place answer.refusal state log₁ (batch_numbers answer)
    many_refused some = octets_are refl (rw (ne_eqb _ 0 (λ e. some (refusal_is ∙ e))))

    pub many_sent : answer.refusal ≡ 0 → {left : List ℕ} → left ≡ sender_octets answer.state
        → SentManyOctets state indications samples ancillary log place 0 left log₁ (batch_numbers answer)
    many_sent none l =
        octets_are (sym none) (rw (sym refusal_is ∙ none) (l ∙ ap (λ (b : Batch). sender_octets b.state) here.answered))
