-- Wrong answers of the call on a format: its contract rules them out. Stated over the contract itself.
-- Assumes nothing.
use mathlib.Core.List.{List, [], ◌∷◌}
use mathlib.Core.Path.{◌≡◌, ap}
use Prim.Native.Nat.{ℕ}
use native.Mathlib.Omega.{arith}
use contract.Lifetimes.{Lfts}
use lib.ListN.{get_or}
use Rattle.runs.proofs.Wrong.{Never, Place, lent_mut}
use Rattle.formats.proofs.Wrong as formats
use Rattle.rimesatchel.proofs.facts.rime_format.Kinds as format-kinds
use Rattle.rimesatchel.proofs.facts.rime_format.Reads as format-reads

module _ (κs : Lfts 1) (f : Place) where
  -- the facts are lent as nines
  abbrev Facts : ℕ → (ℕ → List ℕ → Type 0) → Type 0
  Facts octet Wrong =
      Never format-kinds.ps format-kinds.r format-reads.Post κs (octet, (lent_mut f (9 ∷ 9 ∷ 9 ∷ 9 ∷ []), tt)) (λ x v. Wrong x v.1.0)

  -- the octets of a subframe for the slots of a cell
  pub width_not_slots : Facts 0x56 (λ x facts. get_or facts 3 0 ≡ 4)
  unfolding formats.unfolded
  width_not_slots x v wrong p = let right : get_or v.1.0 3 0 ≡ 12 = ap (λ (l : List ℕ). get_or l 3 0) p.1 in omega arith

  -- overhead and ancillary bits swapped
  pub fields_not_swapped : Facts 0x43 (λ x facts. get_or facts 2 0 ≡ 4)
  unfolding formats.unfolded
  fields_not_swapped x v wrong p = let right : get_or v.1.0 2 0 ≡ 0 = ap (λ (l : List ℕ). get_or l 2 0) p.1 in omega arith

  -- a number beyond an octet cut to one
  pub not_cut_to_an_octet : Facts 0x156 (λ x facts. x ≡ 0)
  unfolding formats.unfolded
  not_cut_to_an_octet x v wrong p = let right : x ≡ 1 = p.0 in omega arith

  -- a refused format's facts left as they were lent
  pub refused_facts_not_left : Facts 0x53 (λ x facts. get_or facts 0 0 ≡ 9)
  unfolding formats.unfolded
  refused_facts_not_left x v wrong p = let right : get_or v.1.0 0 0 ≡ 0 = ap (λ (l : List ℕ). get_or l 0 0) p.1 in omega arith
