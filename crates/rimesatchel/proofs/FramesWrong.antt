-- Wrong answers of the AES3 cable's calls: their contracts rule them out. Stated over the contracts themselves.
-- Assumes nothing.
use mathlib.Core.List.{List, [], ◌∷◌}
use mathlib.Core.Path.{◌≡◌, sym, ◌∙◌, ap}
use Prim.Native.Nat.{ℕ}
use native.Mathlib.Omega.{arith}
use contract.Lifetimes.{Lfts}
use lib.Count.{ones, ones_in}
use lib.ListN.{get_or}
use Rattle.runs.proofs.Wrong.{Never, Place, lent, lent_mut}
use Rattle.cable.proofs.Wrong as cable
use Rattle.rimesatchel.proofs.frames.rime_aes3_import.Kinds as import-kinds
use Rattle.rimesatchel.proofs.frames.rime_aes3_import.Reads as import-reads
use Rattle.rimesatchel.proofs.frames.rime_aes3_export.Kinds as export-kinds
use Rattle.rimesatchel.proofs.frames.rime_aes3_export.Reads as export-reads

module _ (κs : Lfts 4) (p s a b : Place) where
  -- both answers' arrays are lent as nines
  abbrev Importing : List ℕ → List ℕ → (ℕ → List ℕ → List ℕ → Type 0) → Type 0
  Importing preambles subframes Wrong =
      Never import-kinds.ps import-kinds.r import-reads.Post κs
      (lent p preambles, (lent s subframes, (lent_mut a (9 ∷ 9 ∷ []), (lent_mut b (9 ∷ 9 ∷ []), tt)))) (λ x v. Wrong x v.1.1.0 v.1.1.1.0)

  abbrev Exporting : List ℕ → List ℕ → (ℕ → List ℕ → List ℕ → Type 0) → Type 0
  Exporting samples ancillary Wrong =
      Never export-kinds.ps export-kinds.r export-reads.Post κs
      (lent p samples, (lent s ancillary, (lent_mut a (9 ∷ 9 ∷ []), (lent_mut b (9 ∷ 9 ∷ []), tt)))) (λ x v. Wrong x v.1.1.0 v.1.1.1.0)

  -- the halves swapped
  pub halves_not_swapped : Importing (0x5A ∷ 0x59 ∷ []) (0x30 ∷ 0 ∷ []) (λ x samples ancillary. get_or samples 0 0 ≡ 0)
  unfolding cable.unfolded ones ones_in
  halves_not_swapped x v wrong p =
      let right : get_or v.1.1.0 0 0 ≡ 3 = ap (λ (l : List ℕ). get_or l 0 0) p.the_samples in omega arith

  -- a refused frame's arrays left as they were lent_mut
  pub refused_import_not_left : Importing (0x59 ∷ 0x59 ∷ []) (0x30 ∷ 0 ∷ []) (λ x samples ancillary. samples ≡ 9 ∷ 9 ∷ [])
  unfolding cable.unfolded ones ones_in
  refused_import_not_left x v wrong p =
      let sample : ◌≡◌ {A = ℕ} 9 0 = ap (λ (l : List ℕ). get_or l 0 0) (sym wrong ∙ p.the_samples) in omega arith

  -- the answer of a taken frame lost
  pub ancillary_not_left : Importing (0x5A ∷ 0x59 ∷ []) (0x30 ∷ 0 ∷ []) (λ x samples ancillary. ancillary ≡ 9 ∷ 9 ∷ [])
  unfolding cable.unfolded ones ones_in
  ancillary_not_left x v wrong p =
      let number : ◌≡◌ {A = ℕ} 9 8 = ap (λ (l : List ℕ). get_or l 0 0) (sym wrong ∙ p.the_ancillary) in omega arith

  -- Y before Z
  pub preambles_not_swapped : Exporting (3 ∷ 0 ∷ []) (8 ∷ 8 ∷ []) (λ x preambles subframes. get_or preambles 0 0 ≡ 0x59)
  unfolding cable.unfolded ones ones_in
  preambles_not_swapped x v wrong p =
      let right : get_or v.1.1.0 0 0 ≡ 0x5A = ap (λ (l : List ℕ). get_or l 0 0) p.the_preambles in omega arith

  -- a refused export names a preamble
  pub refused_export_names_none : Exporting (3 ∷ 0 ∷ []) (8 ∷ 0 ∷ []) (λ x preambles subframes. get_or preambles 1 0 ≡ 0x59)
  unfolding cable.unfolded ones ones_in
  refused_export_names_none x v wrong p =
      let right : get_or v.1.1.0 1 0 ≡ 0 = ap (λ (l : List ℕ). get_or l 1 0) p.the_preambles in omega arith
