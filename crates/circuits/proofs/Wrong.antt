-- Wrong answers to the public functions: their contracts rule them out. Stated over the contracts themselves.
-- Assumes nothing.
use mathlib.Core.List.{List, [], ◌∷◌}
use mathlib.Core.Path.{◌≡◌, ap}
use Prim.Native.Nat.{ℕ}
use native.Mathlib.Omega.{arith}
use contract.Lifetimes.{Lfts}
use lib.ListN.{get_or, replicate}
use Rattle.refusals.specs.Refusals.{refused_by}
use Rattle.runs.specs.Refusals.{or_else}
use Rattle.runs.specs.Runs.{tab}
use Rattle.runs.proofs.Wrong.{Never, Place, lent, lent_mut}
use Rattle.formats.proofs.Wrong as formats
use Rattle.circuits.specs.Circuits.{Verdict, answer_of, circuit_of, fits_slots, cells_per_second, judged_from, check_refusal, checked_of, planned_of, plan_refusal}
use Rattle.circuits.specs.Answered.{check_answered}
use Rattle.circuits.proofs.check.Kinds as check-kinds
use Rattle.circuits.proofs.check.Reads as check-reads
use Rattle.circuits.proofs.plan.Kinds as plan-kinds
use Rattle.circuits.proofs.plan.Reads as plan-reads

-- every definition on the way down to the numbers
unfoldable pub unfolded : Unit {0}
unfolding formats.unfolded or_else tab fits_slots cells_per_second judged_from check_refusal checked_of planned_of plan_refusal
unfolded = tt

module _ (κs : Lfts 2) (s a : Place) where
  -- 56 hex at 48,000 a second
  abbrev Checking : ℕ → List ℕ → List ℕ → (Verdict → Type 0) → Type 0
  Checking channels shares allowances Wrong =
      Never check-kinds.ps check-kinds.r check-reads.Post κs (0x56, (channels, (48000, (lent s shares, (lent a allowances, tt))))) (λ x v. Wrong (check_answered x))

  -- a cast of 60 over five full circuits refused, or turned down
  pub check_not_always_no : Checking 60 (replicate 5 12) (replicate 5 48000) (λ x. answer_of x ≡ 1 → ⊥)
  unfolding unfolded
  check_not_always_no x v wrong p = wrong (ap answer_of p)

  -- a circuit without channels taken
  pub share_0_not_taken : Checking 12 (12 ∷ 0 ∷ []) (48000 ∷ 48000 ∷ []) (λ x. answer_of x ≡ 1)
  unfolding unfolded
  share_0_not_taken x v wrong p = let right : answer_of (check_answered x) ≡ 2 = ap answer_of p in omega arith

  -- one cell a second too few allowed: one channel has twelve times in a cell
  pub allowance_not_overlooked : Checking 1 (1 ∷ []) (3999 ∷ []) (λ x. answer_of x ≡ 1)
  unfolding unfolded
  allowance_not_overlooked x v wrong p = let right : answer_of (check_answered x) ≡ 3 = ap answer_of p in omega arith

  -- the sum named before a share
  pub sum_not_first : Checking 60 (12 ∷ 13 ∷ []) (48000 ∷ 48000 ∷ []) (λ x. answer_of x ≡ 4)
  unfolding unfolded
  sum_not_first x v wrong p = let right : answer_of (check_answered x) ≡ 2 = ap answer_of p in omega arith

  -- a later share named before an earlier allowance
  pub later_circuit_not_first : Checking 25 (12 ∷ 13 ∷ []) (47999 ∷ 48000 ∷ []) (λ x. circuit_of x ≡ 1)
  unfolding unfolded
  later_circuit_not_first x v wrong p = let right : circuit_of (check_answered x) ≡ 0 = ap circuit_of p in omega arith

module _ (κs : Lfts 1) (s : Place) where
  -- over six circuits, lent as nines
  abbrev Planning : ℕ → (ℕ → List ℕ → Type 0) → Type 0
  Planning channels Wrong =
      Never plan-kinds.ps plan-kinds.r plan-reads.Post κs (0x56, (channels, (lent_mut s (replicate 6 9), tt))) (λ x v. Wrong (refused_by x) v.1.1.0)

  -- refused although there is room
  pub plan_not_always_refused : Planning 60 (λ x shares. x ≡ 0 → ⊥)
  unfolding unfolded
  plan_not_always_refused x v wrong p = wrong p.refused

  -- the channels spread evenly
  pub plan_not_even : Planning 60 (λ x shares. get_or shares 5 0 ≡ 10)
  unfolding unfolded
  plan_not_even x v wrong p = let right : get_or v.1.1.0 5 0 ≡ 0 = ap (λ (l : List ℕ). get_or l 5 0) p.leaves in omega arith

  -- too many channels, and the shares written
  pub refused_plan_not_written : Planning 73 (λ x shares. get_or shares 0 0 ≡ 12)
  unfolding unfolded
  refused_plan_not_written x v wrong p = let right : get_or v.1.1.0 0 0 ≡ 9 = ap (λ (l : List ℕ). get_or l 0 0) p.leaves in omega arith
