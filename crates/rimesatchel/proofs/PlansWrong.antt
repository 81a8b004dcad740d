-- Wrong answers of the circuits' calls: their contracts rule them out. Stated over the contracts themselves.
-- Assumes nothing.
use mathlib.Core.List.{List, [], ◌∷◌}
use mathlib.Core.Path.{◌≡◌, sym, ◌∙◌, ap}
use Prim.Native.Nat.{ℕ}
use native.Mathlib.Omega.{arith}
use contract.Lifetimes.{Lfts}
use lib.ListN.{get_or, replicate}
use Rattle.runs.proofs.Wrong.{Never, Place, lent, lent_mut}
use Rattle.circuits.proofs.Wrong as circuits
use Rattle.rimesatchel.proofs.plans.rime_circuits_check.Kinds as check-kinds
use Rattle.rimesatchel.proofs.plans.rime_circuits_check.Reads as check-reads
use Rattle.rimesatchel.proofs.plans.rime_circuits_plan.Kinds as plan-kinds
use Rattle.rimesatchel.proofs.plans.rime_circuits_plan.Reads as plan-reads

module _ (κs : Lfts 3) (s a b : Place) where
  -- twelve channels and one, in 56 hex; the answer is lent as nines
  abbrev Checking : ℕ → List ℕ → (ℕ → List ℕ → Type 0) → Type 0
  Checking frequency shares Wrong =
      Never check-kinds.ps check-kinds.r check-reads.Post κs
      (0x56, (13, (frequency, (lent s shares, (lent a (48000 ∷ 3999 ∷ []), (lent_mut b (9 ∷ 9 ∷ []), tt)))))) (λ x v. Wrong x v.1.1.1.1.1.0)

  -- the circuit named before the answer
  pub circuit_not_first : Checking 48000 (12 ∷ 1 ∷ []) (λ x answer. get_or answer 0 0 ≡ 1)
  unfolding circuits.unfolded
  circuit_not_first x v wrong p =
      let right : get_or v.1.1.1.1.1.0 0 0 ≡ 3 = ap (λ (l : List ℕ). get_or l 0 0) p.told in omega arith

  -- no circuit named
  pub circuit_not_left_out : Checking 48000 (12 ∷ 1 ∷ []) (λ x answer. get_or answer 1 0 ≡ 0)
  unfolding circuits.unfolded
  circuit_not_left_out x v wrong p =
      let right : get_or v.1.1.1.1.1.0 1 0 ≡ 1 = ap (λ (l : List ℕ). get_or l 1 0) p.told in omega arith

  -- a refused check that leaves the answer as it was lent_mut
  pub refused_answer_not_left : Checking 0 (12 ∷ 1 ∷ []) (λ x answer. answer ≡ 9 ∷ 9 ∷ [])
  unfolding circuits.unfolded
  refused_answer_not_left x v wrong p =
      let number : ◌≡◌ {A = ℕ} 9 0 = ap (λ (l : List ℕ). get_or l 0 0) (sym wrong ∙ p.told) in omega arith

module _ (κs : Lfts 1) (s : Place) where
  -- over six circuits, lent as nines
  abbrev Planning : ℕ → (ℕ → List ℕ → Type 0) → Type 0
  Planning channels Wrong =
      Never plan-kinds.ps plan-kinds.r plan-reads.Post κs (0x56, (channels, (lent_mut s (replicate 6 9), tt))) (λ x v. Wrong x v.1.1.0)

  -- circuits left over keep what they held
  pub left_over_not_kept : Planning 60 (λ x shares. get_or shares 5 0 ≡ 9)
  unfolding circuits.unfolded
  left_over_not_kept x v wrong p = let right : get_or v.1.1.0 5 0 ≡ 0 = ap (λ (l : List ℕ). get_or l 5 0) p.leaves in omega arith

  -- too many channels, and another number
  pub thirty_not_22 : Planning 73 (λ x shares. x ≡ 22)
  unfolding circuits.unfolded
  thirty_not_22 x v wrong p = let right : x ≡ 30 = p.refused in omega arith
