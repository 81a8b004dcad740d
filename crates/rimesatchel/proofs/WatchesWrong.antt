-- Wrong answers of the watch's call: its contract rules them out. Stated over the contract itself.
-- Assumes nothing.
use mathlib.Core.List.{List, [], ◌∷◌}
use mathlib.Core.Path.{◌≡◌, sym, ◌∙◌, ap}
use Prim.Native.Nat.{ℕ}
use native.Mathlib.Omega.{arith}
use contract.Lifetimes.{Lfts}
use lib.ListN.{get_or}
use Rattle.runs.proofs.Wrong.{Never, Place, lent, lent_mut}
use Rattle.slips.proofs.Wrong as slips
use Rattle.rimesatchel.specs.Watches.{watch_of, watch_octets}
use Rattle.rimesatchel.proofs.watches.rime_slip.Kinds as slip-kinds
use Rattle.rimesatchel.proofs.watches.rime_slip.Reads as slip-reads

module _ (κs : Lfts 3) (w r s : Place) where
  -- `slip` is lent as nines
  abbrev Watching : List ℕ → List ℕ → (ℕ → List ℕ → List ℕ → Type 0) → Type 0
  Watching watch report Wrong =
      Never slip-kinds.ps slip-kinds.r slip-reads.Post κs (lent_mut w watch, (lent r report, (lent_mut s (9 ∷ 9 ∷ []), tt)))
      (λ x v. Wrong x v.0 v.1.1.0)

  -- number 4, out of step: the watch left as it was
  pub watch_not_left : Watching (1 ∷ 3 ∷ 1 ∷ 0 ∷ 0 ∷ 0 ∷ 0 ∷ []) (0 ∷ 4 ∷ 8 ∷ 0 ∷ []) (λ x watch slip. get_or watch 5 0 ≡ 0)
  unfolding slips.unfolded watch_of watch_octets
  watch_not_left x v wrong p =
      let right : get_or v.0 5 0 ≡ 1 = ap (λ (l : List ℕ). get_or l 5 0) p.leaves in omega arith

  -- a refused call's `slip` left as it was lent_mut
  pub refused_slip_not_left : Watching (2 ∷ 3 ∷ 1 ∷ 0 ∷ 0 ∷ 0 ∷ 0 ∷ []) (0 ∷ 4 ∷ 8 ∷ 0 ∷ []) (λ x watch slip. slip ≡ 9 ∷ 9 ∷ [])
  unfolding slips.unfolded watch_of watch_octets
  refused_slip_not_left x v wrong p =
      let what : ◌≡◌ {A = ℕ} 9 0 = ap (λ (l : List ℕ). get_or l 0 0) (sym wrong ∙ p.tells) in omega arith

  -- what is told and how many cells, the other way round
  pub slip_not_swapped : Watching (1 ∷ 4 ∷ 1 ∷ 0 ∷ 0 ∷ 1 ∷ 8 ∷ []) (0 ∷ 5 ∷ 8 ∷ 0 ∷ []) (λ x watch slip. get_or slip 0 0 ≡ 64)
  unfolding slips.unfolded watch_of watch_octets
  slip_not_swapped x v wrong p =
      let right : get_or v.1.1.0 0 0 ≡ 1 = ap (λ (l : List ℕ). get_or l 0 0) p.tells in omega arith

  -- 31 before 4: a yes that is 2
  pub report_not_before_octets : Watching (2 ∷ 3 ∷ 1 ∷ 0 ∷ 0 ∷ 0 ∷ 0 ∷ []) (1 ∷ 4 ∷ 0 ∷ 0 ∷ []) (λ x watch slip. x ≡ 31)
  unfolding slips.unfolded watch_of watch_octets
  report_not_before_octets x v wrong p = let right : x ≡ 4 = p.refused in omega arith
