-- What a refused salvage leaves: both outputs as they were, and three counts of 0.
-- Assumes nothing.
use mathlib.Core.List.{List}
use mathlib.Core.Path.{◌≡◌, ◌∙◌, ap}
use Prim.Native.Nat.{ℕ}
use borrow.Author.Tests.{ne_eqb}
use lib.ListN.{length}
use Rattle.runs.specs.Runs.{over}
use Rattle.saving.specs.declared.Salvaged.{Salvaged}
use Rattle.saving.specs.Code.{not_saved}
use Rattle.saving.specs.Salvage.{salvage_refusal, salvaged_of, saved_into, Salvages}
use Rattle.saving.proofs.Laws.{salvaged_refusal}

module _ {log out list : List ℕ} {answer : Salvaged} {out₁ list₁ : List ℕ} (s : Salvages log out list answer out₁ list₁) where
  abbrev refusal : ℕ
  refusal = salvage_refusal log (length out) (length list)

  pub refused_by_lem : answer.refusal ≡ refusal
  refused_by_lem = ap (λ (a : Salvaged). a.refusal) s.answered ∙ salvaged_refusal log (length out) (length list)

  module _ (some : answer.refusal ≡ 0 → ⊥) where
    refuses : refusal ≡ 0 → ⊥
    refuses none = some (refused_by_lem ∙ none)

    answer_is : answer ≡ not_saved refusal
    unfolding salvaged_of
    answer_is = s.answered ∙ rw (ne_eqb refusal 0 refuses)

    pub counts_none : (answer.octets ≡ 0) × (answer.left_out ≡ 0) × (answer.cut ≡ 0)
    counts_none = (
      ap (λ (a : Salvaged). a.octets) answer_is,
      ap (λ (a : Salvaged). a.left_out) answer_is,
      ap (λ (a : Salvaged). a.cut) answer_is,
    )

    pub out_stays : out₁ ≡ out
    unfolding saved_into over
    out_stays = s.out_after ∙ rw (ne_eqb refusal 0 refuses)

    pub list_stays : list₁ ≡ list
    unfolding saved_into over
    list_stays = s.list_after ∙ rw (ne_eqb refusal 0 refuses)
