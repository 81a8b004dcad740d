-- Wrong answers to the public functions: their contracts rule them out. Stated over the contracts themselves.
-- Assumes nothing.
use mathlib.Core.List.{List, [], ◌∷◌}
use mathlib.Core.Path.{◌≡◌, ap}
use Prim.Native.Nat.{ℕ}
use native.Mathlib.Omega.{arith}
use contract.Lifetimes.{Lfts}
use lib.ListN.{get_or, replicate}
use Rattle.runs.specs.Runs.{tab, read_on, over}
use Rattle.runs.proofs.Wrong.{Never, Place, lent, lent_mut}
use Rattle.cells.specs.Cells.{subframe_at, sample_in, ancillary_in}
use Rattle.sender.proofs.Wrong as sender
use Rattle.units.specs.declared.Exported.{Exported}
use Rattle.units.specs.declared.Entered.{Entered}
use Rattle.units.specs.Units.{
  subframe_octets,
  frame_octets,
  frames_in,
  units_of,
  unit_octets,
  export_octets,
  runs_refused,
  values_refused,
  export_refusal,
  exported_of,
  export_gives,
  unit_refused,
  read_refusal,
  entered_of,
  read_off,
  read_gives,
}
use Rattle.units.proofs.export_units.Kinds as export-kinds
use Rattle.units.proofs.export_units.Reads as export-reads
use Rattle.units.proofs.read_unit.Kinds as read-kinds
use Rattle.units.proofs.read_unit.Reads as read-reads

-- every definition on the way down to the numbers: of units, and of what they rest on
unfoldable pub units_unfolded : Unit {0}
unfolding subframe_octets frame_octets frames_in units_of unit_octets export_octets runs_refused values_refused export_refusal exported_of export_gives
units_unfolded = tt

unfoldable pub unfolded : Unit {0}
unfolding sender.unfolded units_unfolded tab read_on over subframe_at sample_in ancillary_in unit_refused read_refusal entered_of read_off read_gives
unfolded = tt

module _ (κs : Lfts 3) (s a o : Place) where
  -- an export of two channels in this format with units of this size; twelve octets are lent as nines
  abbrev Exporting : ℕ → ℕ → List ℕ → List ℕ → (Exported → List ℕ → Type 0) → Type 0
  Exporting octet size samples ancillary Wrong =
      Never export-kinds.ps export-kinds.r export-reads.Post κs
      (octet, (2, (size, (lent s samples, (lent a ancillary, (lent_mut o (replicate 12 9), tt)))))) (λ x v. Wrong x v.1.1.1.1.1.0)

  -- three frames of four octets each
  abbrev six : List ℕ
  six = 1 ∷ 2 ∷ 3 ∷ 4 ∷ 5 ∷ 6 ∷ []

  -- refused although nothing is wrong, by whatever number
  pub export_not_always_refused : Exporting 0x04 10 six (replicate 6 0) (λ x out. x.refusal ≡ 0 → ⊥)
  unfolding unfolded
  export_not_always_refused x v wrong p = wrong (ap (λ (r : Exported). r.refusal) p.answered)

  -- a frame cut between two units: units of ten octets, which two frames and a half fill
  pub frame_not_cut : Exporting 0x04 10 six (replicate 6 0) (λ x out. x.full ≡ 10)
  unfolding unfolded
  frame_not_cut x v wrong p = let right : x.full ≡ 8 = ap (λ (r : Exported). r.full) p.answered in omega arith

  -- an empty last unit, after two frames that fill one
  pub no_empty_last_unit : Exporting 0x04 8 (1 ∷ 2 ∷ 3 ∷ 4 ∷ []) (replicate 4 0) (λ x out. x.units ≡ 2)
  unfolding unfolded
  no_empty_last_unit x v wrong p = let right : x.units ≡ 1 = ap (λ (r : Exported). r.units) p.answered in omega arith

  -- and one where there are no frames at all
  pub no_frames_no_unit : Exporting 0x04 8 [] [] (λ x out. x.units ≡ 1)
  unfolding unfolded
  no_frames_no_unit x v wrong p = let right : x.units ≡ 0 = ap (λ (r : Exported). r.units) p.answered in omega arith

  -- ancillary left out: sample 123 hex with ancillary 5 is 12 35 hex
  pub ancillary_not_left_out : Exporting 0x43 4 (0x123 ∷ 0 ∷ []) (5 ∷ 0 ∷ []) (λ x out. get_or out 1 0 ≡ 0x30)
  unfolding unfolded
  ancillary_not_left_out x v wrong p =
      let right : get_or v.1.1.1.1.1.0 1 0 ≡ 0x35 = ap (λ (l : List ℕ). get_or l 1 0) p.out_after in omega arith

  -- octets past the units overwritten
  pub past_not_written : Exporting 0x04 8 (1 ∷ 2 ∷ 3 ∷ 4 ∷ []) (replicate 4 0) (λ x out. get_or out 8 0 ≡ 0)
  unfolding unfolded
  past_not_written x v wrong p =
      let right : get_or v.1.1.1.1.1.0 8 0 ≡ 9 = ap (λ (l : List ℕ). get_or l 8 0) p.out_after in omega arith

  -- a format with overhead let out
  pub overhead_not_taken : Exporting 0x56 8 (1 ∷ 2 ∷ []) (replicate 2 0) (λ x out. x.refusal ≡ 0)
  unfolding unfolded
  overhead_not_taken x v wrong p = let right : x.refusal ≡ 26 = ap (λ (r : Exported). r.refusal) p.answered in omega arith

  -- a refused export written: eight samples, and room for six
  pub refused_export_not_written : Exporting 0x04 8 (1 ∷ 2 ∷ 3 ∷ 4 ∷ 5 ∷ 6 ∷ 7 ∷ 8 ∷ []) (replicate 8 0) (λ x out. get_or out 1 0 ≡ 1)
  unfolding unfolded
  refused_export_not_written x v wrong p =
      let right : get_or v.1.1.1.1.1.0 1 0 ≡ 9 = ap (λ (l : List ℕ). get_or l 1 0) p.out_after in omega arith

  -- a reading of two channels in 43 hex; two runs of three entries are lent as nines
  abbrev Reading : List ℕ → (Entered → List ℕ → List ℕ → Type 0) → Type 0
  Reading unit Wrong =
      Never read-kinds.ps read-kinds.r read-reads.Post κs
      (0x43, (2, (lent s unit, (lent_mut a (replicate 3 9), (lent_mut o (replicate 3 9), tt))))) (λ x v. Wrong x v.1.1.1.0 v.1.1.1.1.0)

  -- one frame: sample 123 hex with ancillary 5, sample 678 hex with ancillary 9
  abbrev one : List ℕ
  one = 0x12 ∷ 0x35 ∷ 0x67 ∷ 0x89 ∷ []

  -- refused although nothing is wrong, by whatever number
  pub read_not_always_refused : Reading one (λ x samples ancillary. x.refusal ≡ 0 → ⊥)
  unfolding unfolded
  read_not_always_refused x v wrong p = wrong (ap (λ (r : Entered). r.refusal) p.answered)

  -- frames counted in the place of entries
  pub entries_not_frames : Reading one (λ x samples ancillary. x.entries ≡ 1)
  unfolding unfolded
  entries_not_frames x v wrong p = let right : x.entries ≡ 2 = ap (λ (r : Entered). r.entries) p.answered in omega arith

  -- the ancillary number left in the sample
  pub sample_not_with_ancillary : Reading one (λ x samples ancillary. get_or samples 0 0 ≡ 0x1235)
  unfolding unfolded
  sample_not_with_ancillary x v wrong p =
      let right : get_or v.1.1.1.0 0 0 ≡ 0x123 = ap (λ (l : List ℕ). get_or l 0 0) p.samples_after in omega arith

  -- ancillary left out
  pub ancillary_not_zero : Reading one (λ x samples ancillary. get_or ancillary 1 0 ≡ 0)
  unfolding unfolded
  ancillary_not_zero x v wrong p =
      let right : get_or v.1.1.1.1.0 1 0 ≡ 9 = ap (λ (l : List ℕ). get_or l 1 0) p.ancillary_after in omega arith

  -- an empty unit taken
  pub empty_not_taken : Reading [] (λ x samples ancillary. x.refusal ≡ 0)
  unfolding unfolded
  empty_not_taken x v wrong p = let right : x.refusal ≡ 5 = ap (λ (r : Entered). r.refusal) p.answered in omega arith

  -- two frames written into three entries, as far as they go
  pub refused_read_not_written : Reading (0x12 ∷ 0x35 ∷ 0x67 ∷ 0x89 ∷ 0 ∷ 0 ∷ 0 ∷ 0 ∷ []) (λ x samples ancillary. get_or samples 0 0 ≡ 0x123)
  unfolding unfolded
  refused_read_not_written x v wrong p =
      let right : get_or v.1.1.1.0 0 0 ≡ 9 = ap (λ (l : List ℕ). get_or l 0 0) p.samples_after in omega arith
