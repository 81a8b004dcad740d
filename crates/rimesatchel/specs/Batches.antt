-- What the calls over many records of a log leave, as include/rimesatchel.h has it.
-- Assumes nothing.
use Rattle.std.specs.Prelude.{List, [], ◌∷◌, ◌≡◌, ℕ, length}
use Rattle.hearing.specs.declared.judging.Judged.{Judged}
use Rattle.hearing.specs.Judging.{judged_over, Judges}
use Rattle.hearing.specs.declared.receiving.Batch.{Batch}
use Rattle.hearing.specs.Receiving.{received_over, ReceivesLog}
use Rattle.rimesatchel.specs.Boxes.{receiver_of, receiver_octets, state_after}

abbrev pub judged_here : List ℕ → List ℕ → ℕ → List ℕ → Judged
judged_here state log place reports = judged_over (receiver_of state) log place (length reports)

-- `counts`: "next place, records, why it stopped"
abbrev pub judged_numbers : Judged → List ℕ
judged_numbers j = j.next ∷ j.records ∷ j.stop ∷ []

pub record JudgedOctets (state log : List ℕ) (place : ℕ) (reports : List ℕ) (refusal : ℕ) (left reports₁ counts : List ℕ) : Type 0 where
  pub refused : refusal ≡ (judged_here state log place reports).refusal
  pub leaves : left
      ≡ state_after (judged_here state log place reports).refusal (receiver_octets (judged_here state log place reports).state) state
  pub counted : counts ≡ judged_numbers (judged_here state log place reports)
  pub judges : Judges (receiver_of state) log place reports (judged_here state log place reports) reports₁

abbrev pub received_log_here : List ℕ → List ℕ → ℕ → List ℕ → List ℕ → List ℕ → Batch
received_log_here state log place samples ancillary marks =
    received_over (receiver_of state) log place (length samples) (length ancillary) (length marks)

-- `counts`: "the next place; entries written; why it stopped; cells taken; cells missing before them; refused by 8, by 9, by 15, by 20"
abbrev pub batch_numbers : Batch → List ℕ
batch_numbers b =
    b.next ∷ b.entries ∷ b.stop ∷ b.taken ∷ b.missing ∷ b.refused_8 ∷ b.refused_9 ∷ b.refused_15 ∷ b.refused_20 ∷ []

pub record ReceivedLogOctets (state log : List ℕ) (place : ℕ) (samples ancillary marks : List ℕ) (refusal : ℕ)
    (left samples₁ ancillary₁ marks₁ counts : List ℕ) : Type 0 where
  pub refused : refusal ≡ (received_log_here state log place samples ancillary marks).refusal
  pub leaves : left
      ≡ state_after (received_log_here state log place samples ancillary marks).refusal
      (receiver_octets (received_log_here state log place samples ancillary marks).state) state
  pub counted : counts ≡ batch_numbers (received_log_here state log place samples ancillary marks)
  pub receives : ReceivesLog (receiver_of state) log place samples ancillary marks
      (received_log_here state log place samples ancillary marks) samples₁ ancillary₁ marks₁
