-- Wrong answers of the sheet: its contract rules them out. Stated over the contract itself.
-- Assumes nothing.
use mathlib.Core.List.{List, [], ◌∷◌}
use mathlib.Core.Path.{◌≡◌, ap}
use Prim.Native.Nat.{ℕ}
use native.Mathlib.Omega.{arith}
use contract.Lifetimes.{Lfts}
use lib.ListN.{get_or, replicate}
use Rattle.runs.proofs.Wrong.{Never, Place, lent, lent_mut}
use Rattle.figures.proofs.Wrong as figures
use Rattle.figures.proofs.Wrong.{twice}
use Rattle.rimesatchel.proofs.sheets.rime_sheet.Kinds as sheet-kinds
use Rattle.rimesatchel.proofs.sheets.rime_sheet.Reads as sheet-reads

module _ (κs : Lfts 4) (p q r t : Place) where
  -- rows and totals lent as nines
  abbrev Sheet : List ℕ → (ℕ → List ℕ → List ℕ → Type 0) → Type 0
  Sheet lengths Wrong =
      Never sheet-kinds.ps sheet-kinds.r sheet-reads.Post κs
      (lent p twice, (lent q lengths, (lent_mut r (replicate 10 9), (lent_mut t (replicate 10 9), tt)))) (λ x v. Wrong x v.1.1.0 v.1.1.1.0)

  -- the totals left as they were lent
  pub totals_not_left : Sheet (101 ∷ []) (λ x rows totals. get_or totals 6 0 ≡ 9)
  unfolding figures.unfolded
  totals_not_left x v wrong s = let right : get_or v.1.1.1.0 6 0 ≡ 12 = ap (λ (l : List ℕ). get_or l 6 0) s.totals_after in omega arith

  -- a refused sheet whose totals aren't zeros
  pub refused_totals_not_left : Sheet (100 ∷ []) (λ x rows totals. get_or totals 0 0 ≡ 9)
  unfolding figures.unfolded
  refused_totals_not_left x v wrong s = let right : get_or v.1.1.1.0 0 0 ≡ 0 = ap (λ (l : List ℕ). get_or l 0 0) s.totals_after in omega arith
