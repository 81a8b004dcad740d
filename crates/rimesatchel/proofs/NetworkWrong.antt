-- Wrong answers of the data units' calls: their contracts rule them out. Stated over the contracts themselves.
-- Assumes nothing.
use mathlib.Core.List.{List, [], ◌∷◌}
use mathlib.Core.Path.{◌≡◌, sym, ◌∙◌, ap}
use Prim.Native.Nat.{ℕ}
use native.Mathlib.Omega.{arith}
use contract.Lifetimes.{Lfts}
use lib.ListN.{get_or, replicate}
use Rattle.runs.proofs.Wrong.{Never, Place, lent, lent_mut}
use Rattle.units.proofs.Wrong as units
use Rattle.rimesatchel.proofs.network.rime_units_export.Kinds as export-kinds
use Rattle.rimesatchel.proofs.network.rime_units_export.Reads as export-reads
use Rattle.rimesatchel.proofs.network.rime_unit_read.Kinds as read-kinds
use Rattle.rimesatchel.proofs.network.rime_unit_read.Reads as read-reads

module _ (κs : Lfts 4) (s a o t : Place) where
  -- an export of two channels in 43 hex: one frame, sample 123 hex with ancillary 5 and sample 678 hex with ancillary 9; what is lent is nines
  abbrev Exporting : ℕ → (ℕ → List ℕ → List ℕ → Type 0) → Type 0
  Exporting size Wrong =
      Never export-kinds.ps export-kinds.r export-reads.Post κs (
        0x43,
        (
          2,
          (size, (lent s (0x123 ∷ 0x678 ∷ []), (lent a (5 ∷ 9 ∷ []), (lent_mut o (replicate 6 9), (lent_mut t (9 ∷ 9 ∷ 9 ∷ []), tt))))),
        ),
      )
      (λ x v. Wrong x v.1.1.1.1.1.0 v.1.1.1.1.1.1.0)

  -- refused although nothing is wrong, by whatever number
  pub export_not_always_refused : Exporting 7 (λ x out told. x ≡ 0 → ⊥)
  unfolding units.unfolded
  export_not_always_refused x v wrong p = wrong p.refused

  -- the stated size told as the octets of a full unit
  pub full_not_the_size : Exporting 7 (λ x out told. get_or told 1 0 ≡ 7)
  unfolding units.unfolded
  full_not_the_size x v wrong p =
      let right : get_or v.1.1.1.1.1.1.0 1 0 ≡ 4 = ap (λ (l : List ℕ). get_or l 1 0) p.tells in omega arith

  -- the answer of a refused export left as it was lent_mut
  pub refused_export_tells_zeros : Exporting 3 (λ x out told. told ≡ 9 ∷ 9 ∷ 9 ∷ [])
  unfolding units.unfolded
  refused_export_tells_zeros x v wrong p =
      let first : ◌≡◌ {A = ℕ} 9 0 = ap (λ (l : List ℕ). get_or l 0 0) (sym wrong ∙ p.tells) in omega arith

  -- the second channel's subframe first
  pub channels_not_swapped : Exporting 7 (λ x out told. get_or out 0 0 ≡ 0x67)
  unfolding units.unfolded
  channels_not_swapped x v wrong p =
      let right : get_or v.1.1.1.1.1.0 0 0 ≡ 0x12 = ap (λ (l : List ℕ). get_or l 0 0) p.writes.out_after in omega arith

  -- a reading of such a unit into runs of nines
  abbrev Reading : List ℕ → (ℕ → List ℕ → List ℕ → ℕ → Type 0) → Type 0
  Reading unit Wrong =
      Never read-kinds.ps read-kinds.r read-reads.Post κs
      (0x43, (2, (lent s unit, (lent_mut a (replicate 3 9), (lent_mut o (replicate 3 9), (lent_mut t 9, tt))))))
      (λ x v. Wrong x v.1.1.1.0 v.1.1.1.1.0 v.1.1.1.1.1.0)

  -- refused although nothing is wrong, by whatever number
  pub read_not_always_refused : Reading (0x12 ∷ 0x35 ∷ 0x67 ∷ 0x89 ∷ []) (λ x samples ancillary entries. x ≡ 0 → ⊥)
  unfolding units.unfolded
  read_not_always_refused x v wrong p = wrong p.refused

  -- the number of entries not told
  pub entries_told : Reading (0x12 ∷ 0x35 ∷ 0x67 ∷ 0x89 ∷ []) (λ x samples ancillary entries. entries ≡ 9)
  unfolding units.unfolded
  entries_told x v wrong p = let right : v.1.1.1.1.1.0 ≡ 2 = p.tells in omega arith

  -- a part frame read as far as it goes
  pub part_frame_not_taken : Reading (0x12 ∷ 0x35 ∷ 0x67 ∷ []) (λ x samples ancillary entries. get_or samples 0 0 ≡ 0x123)
  unfolding units.unfolded
  part_frame_not_taken x v wrong p =
      let right : get_or v.1.1.1.0 0 0 ≡ 9 = ap (λ (l : List ℕ). get_or l 0 0) p.reads.samples_after in omega arith
