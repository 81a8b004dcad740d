-- What the call that sends many cells leaves, as include/rimesatchel.h has it.
-- Assumes nothing.
use Rattle.std.specs.Prelude.{Bool, List, [], ◌∷◌, ◌≡◌, ℕ}
use Rattle.sender.specs.declared.many.Batch.{Batch}
use Rattle.sender.specs.Many.{batch_over, log_after}
use Rattle.rimesatchel.specs.Boxes.{sender_of, sender_octets, state_after}

abbrev pub batch_here : List ℕ → Bool → List ℕ → List ℕ → List ℕ → ℕ → Batch
batch_here state indications samples ancillary log place = batch_over indications (sender_of state) samples ancillary log place

-- `counts`: "next place, entries taken, why it stopped, cells"
abbrev pub batch_numbers : Batch → List ℕ
batch_numbers b = b.next ∷ b.entries ∷ b.stop ∷ b.cells ∷ []

pub record SentManyOctets (state : List ℕ) (indications : Bool) (samples ancillary log : List ℕ) (place refusal : ℕ)
    (left log₁ counts : List ℕ) : Type 0 where
  pub refused : refusal ≡ (batch_here state indications samples ancillary log place).refusal
  pub leaves : left
      ≡ state_after (batch_here state indications samples ancillary log place).refusal
      (sender_octets (batch_here state indications samples ancillary log place).state) state
  pub writes : log₁ ≡ log_after indications (sender_of state) samples ancillary log place
  pub counted : counts ≡ batch_numbers (batch_here state indications samples ancillary log place)
