-- Wrong answers of the salvage's call: its contract rules them out. Stated over the contract itself.
-- Assumes nothing.
use mathlib.Core.List.{List, [], ◌∷◌}
use mathlib.Core.Path.{◌≡◌, ap}
use Prim.Native.Nat.{ℕ}
use native.Mathlib.Omega.{arith}
use contract.Lifetimes.{Lfts}
use lib.ListN.{get_or, replicate}
use Rattle.runs.proofs.Wrong.{Never, Place, lent, lent_mut}
use Rattle.saving.proofs.Wrong as saving
use Rattle.rimesatchel.proofs.salvages.rime_salvage.Kinds as salvage-kinds
use Rattle.rimesatchel.proofs.salvages.rime_salvage.Reads as salvage-reads

-- a header, a record of zeros, which the receiver refuses 8, and five octets of another
abbrev torn : List ℕ
torn = 0x56 ∷ 2 ∷ 0 ∷ replicate 54 0

module _ (κs : Lfts 4) (p q r s : Place) where
  -- the array of counts is lent as nines
  abbrev Saving : List ℕ → List ℕ → (ℕ → List ℕ → List ℕ → Type 0) → Type 0
  Saving log list Wrong =
      Never salvage-kinds.ps salvage-kinds.r salvage-reads.Post κs
      (lent p log, (lent_mut q (9 ∷ 9 ∷ 9 ∷ []), (lent_mut r list, (lent_mut s (9 ∷ 9 ∷ 9 ∷ []), tt))))
      (λ x v. Wrong x v.1.0 v.1.1.1.0)

  -- records left out and octets cut swapped
  pub counts_not_swapped : Saving torn (9 ∷ 9 ∷ []) (λ x out counts. get_or counts 1 0 ≡ 5)
  unfolding saving.unfolded
  counts_not_swapped x v wrong p =
      let right : get_or v.1.1.1.0 1 0 ≡ 1 = ap (λ (l : List ℕ). get_or l 1 0) p.counted in omega arith

  -- a refused call's counts left as they were lent_mut
  pub refused_counts_not_left : Saving [] (9 ∷ 9 ∷ []) (λ x out counts. get_or counts 0 0 ≡ 9)
  unfolding saving.unfolded
  refused_counts_not_left x v wrong p =
      let right : get_or v.1.1.1.0 0 0 ≡ 0 = ap (λ (l : List ℕ). get_or l 0 0) p.counted in omega arith

  -- the new log written where the list is too short
  pub refused_salvage_writes_nothing : Saving torn (9 ∷ []) (λ x out counts. get_or out 0 0 ≡ 0x56)
  unfolding saving.unfolded
  refused_salvage_writes_nothing x v wrong p =
      let right : get_or v.1.0 0 0 ≡ 9 = ap (λ (l : List ℕ). get_or l 0 0) p.salvages.out_after in omega arith
