-- What is refused changes nothing and tells nothing else: each call of the log, read off its definition.
-- Assumes nothing.
use mathlib.Core.Bool.{false, ◌||◌}
use mathlib.Core.List.{List, []}
use mathlib.Core.Path.{◌≡◌, refl, sym, ◌∙◌, ap}
use Prim.Native.Nat.{ℕ}
use borrow.Author.Tests.{ne_eqb, eqb-true}
use lib.Dec.{eqb}
use Rattle.runs.proofs.Laws.{split}
use Rattle.cell_log.specs.Answers.{Kept}
use Rattle.cell_log.specs.Numbers.{is_cut, is_long, is_padded, number_at}
use Rattle.cell_log.specs.Records.{header_refusal, header_of_numbers, header_of, second_number, third_number, record_at, place_after, cell_at}
use Rattle.cell_log.specs.Written.{Keeps}
use Rattle.cell_log.proofs.Places.{record_cases}

module _ (log : List ℕ) (place : ℕ) where
  -- `read_number`
  pub refused_number : ((number_at log place).refusal ≡ 0 → ⊥)
      → ((number_at log place).refusal ≡ 11) × ((number_at log place).value ≡ 0) × ((number_at log place).next ≡ 0)
  unfolding number_at
  refused_number some =
      split (is_cut log place || (is_long log place || is_padded log place))
      (λ e. rw e (refl, refl, refl)) (λ e. absurd (some (rw e)))

  -- `read_record`, `reader::read` and the reader's own
  pub refused_record : ((record_at log place).refusal ≡ 0 → ⊥)
      → ((record_at log place).what ≡ 0) × ((record_at log place).indication ≡ false)
      × ((record_at log place).start ≡ 0) × ((record_at log place).next ≡ 0)
  refused_record =
      record_cases log place (λ r. (r.refusal ≡ 0 → ⊥) → (r.what ≡ 0) × (r.indication ≡ false) × (r.start ≡ 0) × (r.next ≡ 0))
      (λ h some. absurd (some refl)) (λ h l some. (refl, refl, refl, refl)) (λ h l k some. (refl, refl, refl, refl))
      (λ h l some. absurd (some refl))

  -- `read_cell`: an empty part
  pub refused_cell : ((record_at log place).refusal ≡ 0 → ⊥) → cell_at log place ≡ []
  unfolding cell_at
  refused_cell some = rw (refused_record some).0

  -- `next_place`: the place stays as it was given
  pub refused_place : ((record_at log place).refusal ≡ 0 → ⊥) → place_after log place ≡ place
  unfolding place_after
  refused_place some = rw (refused_record some).0

-- `read_header`
pub refused_header : (log : List ℕ) → ((header_of log).refusal ≡ 0 → ⊥)
    → ((header_of log).place ≡ 0) × ((header_of log).format ≡ 0) × ((header_of log).channels ≡ 0) × ((header_of log).order ≡ 0)
unfolding header_of header_of_numbers
refused_header log some =
    split (eqb (header_refusal (number_at log 0) (second_number log) (third_number log)) 0)
    (λ e. absurd (some (rw e)))
    (λ e. rw e (refl, refl, refl, refl))

-- `write_number`, `write_header` and `write_record`: the refusal is the definition's, and where there is one the lent log stays
module _ {refusal place : ℕ} {octets log after : List ℕ} {answer : Kept} (k : Keeps refusal place octets log answer after) where
  pub keeps_refusal : answer.refusal ≡ refusal
  keeps_refusal =
      ap (λ (x : Kept). x.refusal) k.answered
      ∙ split (eqb refusal 0) (λ e. rw e (sym (eqb-true refusal 0 e))) (λ e. rw e)

  pub refused_keeps : (refusal ≡ 0 → ⊥) → (answer.next ≡ 0) × (after ≡ log)
  refused_keeps some = (
    ap (λ (x : Kept). x.next) k.answered ∙ rw (ne_eqb refusal 0 some),
    k.left ∙ rw (ne_eqb refusal 0 some),
  )
