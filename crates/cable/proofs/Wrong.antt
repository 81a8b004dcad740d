-- Wrong answers to the public functions: their contracts rule them out. Stated over the contracts themselves.
-- Assumes nothing.
use mathlib.Core.List.{List, [], ◌∷◌}
use mathlib.Core.Path.{◌≡◌, ap}
use Prim.Native.Nat.{ℕ, ◌+◌, ◌^◌}
use native.Mathlib.Omega.{arith}
use contract.Lifetimes.{Lfts}
use lib.Count.{ones, ones_in}
use Rattle.runs.proofs.Wrong.{Never}
use Rattle.cable.specs.Slots.{time_slot, word_of, sample_in, ancillary_in, parity_of, carried_in, subframe_of}
use Rattle.cable.specs.Frames.{Exported, Imported, first, second, is_frame, begins_by, import_refusal, import_of, is_too_large, export_refusal, preamble_of, export_of}
use Rattle.cable.specs.Answered.{import_answered, export_answered}
use Rattle.cable.proofs.import_frame.Kinds as import-kinds
use Rattle.cable.proofs.import_frame.Reads as import-reads
use Rattle.cable.proofs.export_frame.Kinds as export-kinds
use Rattle.cable.proofs.export_frame.Reads as export-reads

-- every definition on the way down to the numbers
unfoldable pub unfolded : Unit {0}
unfolding time_slot word_of sample_in ancillary_in parity_of carried_in subframe_of is_frame begins_by import_refusal import_of is_too_large
    export_refusal preamble_of export_of
unfolded = tt

module _ (κs : Lfts 0) where
  abbrev Importing : List ℕ → List ℕ → (Imported → Type 0) → Type 0
  Importing preambles subframes Wrong =
      Never import-kinds.ps import-kinds.r import-reads.Post κs (record { preambles = preambles; subframes = subframes }, tt)
      (λ x v. Wrong (import_answered x))

  abbrev Exporting : List ℕ → List ℕ → (Exported → Type 0) → Type 0
  Exporting samples ancillary Wrong =
      Never export-kinds.ps export-kinds.r export-reads.Post κs (record { samples = samples; ancillary = ancillary }, tt)
      (λ x v. Wrong (export_answered x))

  -- a frame that nothing is wrong with refused, by whatever number: Z then Y, slots 4 and 5 in the first half, none in the second
  pub import_not_always_refused : Importing (0x5A ∷ 0x59 ∷ []) (0x30 ∷ 0 ∷ []) (λ x. x.refusal ≡ 0 → ⊥)
  unfolding unfolded ones ones_in
  import_not_always_refused x v wrong p = wrong (ap (λ (s : Imported). s.refusal) p)

  -- the audio with the high bit first
  pub audio_not_high_bit_first : Importing (0x5A ∷ 0x59 ∷ []) (0x30 ∷ 0 ∷ []) (λ x. first x.samples ≡ 0xC00000)
  unfolding unfolded ones ones_in
  audio_not_high_bit_first x v wrong p =
      let right : first (import_answered x).samples ≡ 3 = ap (λ (s : Imported). first s.samples) p in omega arith

  -- parity over slots 0 to 31: one of the four that aren't read makes it odd
  pub parity_not_over_all_slots : Importing (0x5A ∷ 0x59 ∷ []) (0x31 ∷ 0 ∷ []) (λ x. x.refusal ≡ 17)
  unfolding unfolded ones ones_in
  parity_not_over_all_slots x v wrong p = let right : (import_answered x).refusal ≡ 0 = ap (λ (s : Imported). s.refusal) p in omega arith

  -- odd parity in the second half taken
  pub odd_second_half_not_taken : Importing (0x5A ∷ 0x59 ∷ []) (0x30 ∷ 0x10 ∷ []) (λ x. x.refusal ≡ 0)
  unfolding unfolded ones ones_in
  odd_second_half_not_taken x v wrong p = let right : (import_answered x).refusal ≡ 17 = ap (λ (s : Imported). s.refusal) p in omega arith

  -- B set in one half alone
  pub b_not_in_one_half : Importing (0x5A ∷ 0x59 ∷ []) (0x30 ∷ 0 ∷ []) (λ x. second x.ancillary ≡ 0)
  unfolding unfolded ones ones_in
  b_not_in_one_half x v wrong p =
      let right : second (import_answered x).ancillary ≡ 8 = ap (λ (s : Imported). second s.ancillary) p in omega arith

  -- 17 before 16: X then X with odd parity
  pub parity_not_before_preambles : Importing (0x58 ∷ 0x58 ∷ []) (0x10 ∷ 0 ∷ []) (λ x. x.refusal ≡ 17)
  unfolding unfolded ones ones_in
  parity_not_before_preambles x v wrong p = let right : (import_answered x).refusal ≡ 16 = ap (λ (s : Imported). s.refusal) p in omega arith

  -- two entries that nothing is wrong with refused, by whatever number
  pub export_not_always_refused : Exporting (3 ∷ 0 ∷ []) (8 ∷ 8 ∷ []) (λ x. x.refusal ≡ 0 → ⊥)
  unfolding unfolded ones ones_in
  export_not_always_refused x v wrong p = wrong (ap (λ (s : Exported). s.refusal) p)

  -- the audio with the high bit first
  pub export_not_high_bit_first : Exporting (3 ∷ 0 ∷ []) (8 ∷ 8 ∷ []) (λ x. first x.subframes ≡ 2 ^ 27 + 2 ^ 26)
  unfolding unfolded ones ones_in
  export_not_high_bit_first x v wrong p =
      let right : first (export_answered x).subframes ≡ 0x30 = ap (λ (s : Exported). first s.subframes) p in omega arith

  -- X before a block's first frame
  pub block_not_begun_by_x : Exporting (3 ∷ 0 ∷ []) (8 ∷ 8 ∷ []) (λ x. first x.preambles ≡ 0x58)
  unfolding unfolded ones ones_in
  block_not_begun_by_x x v wrong p =
      let right : first (export_answered x).preambles ≡ 0x5A = ap (λ (s : Exported). first s.preambles) p in omega arith

  -- a frame whose halves begin blocks at different times sent
  pub differing_b_not_taken : Exporting (3 ∷ 0 ∷ []) (8 ∷ 0 ∷ []) (λ x. x.refusal ≡ 0)
  unfolding unfolded ones ones_in
  differing_b_not_taken x v wrong p = let right : (export_answered x).refusal ≡ 29 = ap (λ (s : Exported). s.refusal) p in omega arith

  -- 29 before 6
  pub differing_b_not_before_6 : Exporting (3 ∷ 0 ∷ []) (16 ∷ 0 ∷ []) (λ x. x.refusal ≡ 29)
  unfolding unfolded ones ones_in
  differing_b_not_before_6 x v wrong p = let right : (export_answered x).refusal ≡ 6 = ap (λ (s : Exported). s.refusal) p in omega arith
