-- A step that is refused changes nothing and tells nothing else. `step`, `bring_forward` and `brought_forward` all answer
-- `step_of`, so this holds for each of them.
-- Assumes nothing.
use mathlib.Core.Bool.{false, cond}
use mathlib.Core.Path.{◌≡◌, refl, ◌∙◌}
use Prim.Native.Nat.{ℕ}
use lib.Dec.{eqb, ltb}
use Rattle.runs.proofs.Laws.{split}
use Rattle.status.specs.Bits.{zeros}
use Rattle.status.specs.Step.{step_of, is_refused, added_to, b_of}
use Rattle.status.specs.declared.step.Block.{Block}

module _ (block : Block) (ancillary mark : ℕ) where
  not_refused : is_refused block.bits ancillary mark ≡ false → (step_of block ancillary mark).handed.refusal ≡ 0
  unfolding step_of added_to
  not_refused taken =
      split (eqb mark 2)
      (λ e. rw (taken, e))
      (λ e. split (eqb (b_of ancillary) 1)
      (λ f. rw (taken, e, f))
      (λ f. split (eqb block.bits 0)
      (λ g. rw (taken, e, f, g))
      (λ g. split (ltb block.bits 191) (λ h. rw (taken, e, f, g, h)) (λ h. rw (taken, e, f, g, h)))))

  -- refused 14 are the inputs that the paper names, and no others
  pub step_refusal_lem : (step_of block ancillary mark).handed.refusal ≡ cond (is_refused block.bits ancillary mark) 14 0
  unfolding step_of
  step_refusal_lem = split (is_refused block.bits ancillary mark) (λ e. rw e) (λ e. not_refused e ∙ rw e)

  -- then the block is as it was lent, and 24 zeros go out with neither yes nor no
  pub refused_step : ((step_of block ancillary mark).handed.refusal ≡ 0 → ⊥)
      → ((step_of block ancillary mark).block ≡ block)
      × ((step_of block ancillary mark).handed.answer ≡ 0)
      × ((step_of block ancillary mark).handed.octets ≡ zeros)
  unfolding step_of
  refused_step refused =
      split (is_refused block.bits ancillary mark) (λ e. rw e (refl, refl, refl)) (λ e. absurd (refused (not_refused e)))
