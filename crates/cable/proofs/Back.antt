-- There and back: export of an imported frame, and import of an exported one.
-- Assumes nothing.
use mathlib.Core.Bool.{Bool, true, false, not, ◌||◌}
use mathlib.Core.List.{List, [], ◌∷◌}
use mathlib.Core.Path.{◌≡◌, refl, sym, ◌∙◌, ap, subst}
use Prim.Native.Nat.{ℕ, zero, suc, ◌+◌, ◌-◌, ◌*◌, ◌/◌, ◌%◌, ◌^◌, ◌≤◌, ◌<◌}
use native.Mathlib.Nat.{mod-lt}
use native.Mathlib.Omega.{arith}
use borrow.Author.Tests
use borrow.Author.Tests.{eqb-true, eqb-false, lt-leb, le-ltb}
use lib.Arith.{mod-mul}
use lib.Count.{ones, ones_in, ones_cat}
use lib.Dec.{eqb}
use lib.ListN.{length}
use lib.Pow
use lib.Pow.{shr-shr}
use Rattle.runs.proofs.Laws.{split, past, neither, both_true}
use Rattle.cable.specs.Slots.{time_slot, sample_in, ancillary_in, parity_of, subframe_of}
use Rattle.cable.specs.Frames.{
  Exported,
  Imported,
  first,
  second,
  preamble_x,
  preamble_y,
  preamble_z,
  is_frame,
  begins_by,
  import_refusal,
  imported,
  import_of,
  is_too_large,
  b_of,
  export_refusal,
  preamble_of,
  exported,
  export_of,
}
use Rattle.cable.specs.Back.{Halves, SameSlots, SameFrame}
use Rattle.cable.proofs.Demand1.{demand_1_import, demand_1_export}
use Rattle.cable.proofs.Laws.{sample_is, ancillary_is, subframe_is, carried_of}
use Rattle.cable.proofs.Refusals.{import_taken, import_0, export_taken, export_fits, export_0}

-- ---- one subframe

ones_bit : (b : ℕ) → b < 2 → ones b ≡ b
unfolding ones ones_in
ones_bit zero h = refl
ones_bit (suc zero) h = refl
ones_bit (suc (suc n)) h = absurd (omega arith)

-- a number above k slots, and the number that they hold: their ones are counted apart
ones_above : (b r : ℕ) → b < 2 → r < 2 ^ 27 → ones (b * 2 ^ 27 + r) ≡ b + ones r
ones_above b r h less = ones_cat 27 b r less ∙ ap (λ (n : ℕ). n + ones r) (ones_bit b h)

module _ (b s : ℕ) (word : s < 2 ^ 32) (even : parity_of s ≡ 1 → ⊥) where
  -- slots 4 to 30
  carried_in_lem : carried_of (sample_in s) (ancillary_in b s) ≡ s / 2 ^ 4 % 2 ^ 27
  carried_in_lem =
      let x = s / 2 ^ 4 in
      let above : x / 2 ^ 24 ≡ s / 2 ^ 28 = shr-shr s 4 24 in
      let three : ancillary_in b s % 8 ≡ s / 2 ^ 28 % 8 = ap (λ (n : ℕ). n % 8) (ancillary_is b s) ∙ omega arith in
      omega (arith, sample_is s, mod-mul x {m = 8} {c = 2 ^ 24} (omega arith) (omega arith), ap (λ (n : ℕ). n % 8) above)

  -- slot 31 is what the others ask
  top_slot : ones (s / 2 ^ 4 % 2 ^ 27) % 2 ≡ s / 2 ^ 4 / 2 ^ 27
  unfolding parity_of
  top_slot =
      let x = s / 2 ^ 4 in
      let counted : ones x ≡ x / 2 ^ 27 + ones (x % 2 ^ 27) =
      ap ones (sym (Pow.split x 27)) ∙ ones_above (x / 2 ^ 27) (x % 2 ^ 27) (omega arith) (mod-lt x (omega arith)) in
      omega (arith, counted, even)

  same_number : subframe_of (sample_in s) (ancillary_in b s) ≡ s / 2 ^ 4 * 2 ^ 4
  same_number =
      let small : sample_in s < 2 ^ 24 = rw (sample_is s) (mod-lt (s / 2 ^ 4) (omega arith)) in
      subframe_is (sample_in s) (ancillary_in b s) small
      ∙ rw (carried_in_lem, top_slot) (omega (arith, Pow.split (s / 2 ^ 4) 27))

low_slots : (x k : ℕ) → k < 4 → time_slot (x * 2 ^ 4) k ≡ 0
unfolding time_slot
low_slots x zero h = omega arith
low_slots x (suc zero) h = omega arith
low_slots x (suc (suc zero)) h = omega arith
low_slots x (suc (suc (suc zero))) h = omega arith
low_slots x (suc (suc (suc (suc k)))) h = absurd (omega arith)

high_slots : (s k : ℕ) → 4 ≤ k → time_slot (s / 2 ^ 4 * 2 ^ 4) k ≡ time_slot s k
unfolding time_slot
high_slots s k from =
    let at : 4 + (k - 4) ≡ k = omega arith in
    let x = s / 2 ^ 4 * 2 ^ 4 in
    let whole : x / 2 ^ 4 ≡ s / 2 ^ 4 = omega arith in
    let same : x / 2 ^ (4 + (k - 4)) ≡ s / 2 ^ (4 + (k - 4)) =
    sym (shr-shr x 4 (k - 4)) ∙ ap (λ (n : ℕ). n / 2 ^ (k - 4)) whole ∙ shr-shr s 4 (k - 4) in
    subst (λ (j : ℕ). x / 2 ^ j % 2 ≡ s / 2 ^ j % 2) at (ap (λ (n : ℕ). n % 2) same)

same_slots : (b s : ℕ) → s < 2 ^ 32 → (parity_of s ≡ 1 → ⊥) → SameSlots s (subframe_of (sample_in s) (ancillary_in b s))
same_slots b s word even =
    rw (same_number b s word even)
    (record { the_same = λ k from to. high_slots s k from; left_0 = λ k h. low_slots (s / 2 ^ 4) k h })

-- an exported subframe: what it is read as
module _ (sample ancillary : ℕ) (small : sample < 2 ^ 24) (few : ancillary ≤ 15) where
  abbrev low : ℕ
  low = carried_of sample ancillary

  above_4 : subframe_of sample ancillary / 2 ^ 4 ≡ ones low % 2 * 2 ^ 27 + low
  above_4 = rw (subframe_is sample ancillary small) (omega arith)

  pub sample_back : sample_in (subframe_of sample ancillary) ≡ sample
  sample_back = sample_is (subframe_of sample ancillary) ∙ rw above_4 (omega arith)

  pub ancillary_back : ancillary_in (b_of ancillary) (subframe_of sample ancillary) ≡ ancillary
  ancillary_back =
      ancillary_is (b_of ancillary) (subframe_of sample ancillary) ∙ rw (subframe_is sample ancillary small) (omega arith)

  pub even_parity : parity_of (subframe_of sample ancillary) ≡ 0
  unfolding parity_of
  even_parity =
      let counted = ones_above (ones low % 2) low (mod-lt (ones low) (omega arith)) (omega arith) in
      ap (λ (n : ℕ). ones n % 2) above_4 ∙ omega (arith, counted)

-- ---- a frame

taken_fits : (sample ancillary : ℕ) → sample < 2 ^ 24 → ancillary ≤ 15 → is_too_large sample ancillary ≡ false
unfolding is_too_large
taken_fits sample ancillary small few = rw (lt-leb (2 ^ 24) sample small, le-ltb 15 ancillary few)

pub begins_le : (preamble : ℕ) → begins_by preamble ≤ 1
unfolding begins_by
begins_le preamble = split (eqb preamble preamble_z) (λ e. rw e (omega arith)) (λ e. rw e (omega arith))

-- X or Z, by B
preamble_back : (one other : ℕ) → is_frame one other ≡ true → (preamble_of (begins_by one) ≡ one) × (other ≡ preamble_y)
unfolding is_frame begins_by preamble_of
preamble_back one other frame =
    let two = both_true (eqb other preamble_y) (eqb one preamble_x || eqb one preamble_z) frame in (
      split (eqb one preamble_z)
          (λ z. rw z (sym (eqb-true one preamble_z z)))
          (λ z. rw z (sym (eqb-true one preamble_x (or_left (eqb one preamble_x) (eqb one preamble_z) z two.1)))),
      eqb-true other preamble_y two.0,
    )
  where
    or_left : (a b : Bool) → b ≡ false → a || b ≡ true → a ≡ true
    or_left true b e t = refl
    or_left false b e t = sym e ∙ t

begins_back : (begins : ℕ) → begins ≤ 1 → (begins_by (preamble_of begins) ≡ begins) × (is_frame (preamble_of begins) preamble_y ≡ true)
unfolding is_frame begins_by preamble_of
begins_back zero h = (refl, refl)
begins_back (suc zero) h = (refl, refl)
begins_back (suc (suc n)) h = absurd (omega arith)

pair_is : (pair : List ℕ) → length pair ≡ 2 → first pair ∷ second pair ∷ [] ≡ pair
pair_is [] two = absurd (omega (arith, two))
pair_is (x ∷ []) two = absurd (omega (arith, two))
pair_is (x ∷ y ∷ []) two = refl
pair_is (x ∷ y ∷ z ∷ zs) two = absurd (omega (arith, two))

-- what passes the checks of an import
pub record Sound (preambles subframes : List ℕ) : Type 0 where
  pub frame : is_frame (first preambles) (second preambles) ≡ true
  pub first_even : parity_of (first subframes) ≡ 1 → ⊥
  pub second_even : parity_of (second subframes) ≡ 1 → ⊥

pub import_sound : (preambles subframes : List ℕ) → import_refusal preambles subframes ≡ 0 → Sound preambles subframes
unfolding import_refusal
import_sound preambles subframes none =
    let frames = past (not (is_frame (first preambles) (second preambles))) 15 _ none in
    let odd = past (eqb (parity_of (first subframes)) 1 || eqb (parity_of (second subframes)) 1) 16 _ frames.1 in
    let both = neither (eqb (parity_of (first subframes)) 1) (eqb (parity_of (second subframes)) 1) odd.0 in
    record {
      frame = Tests.not-false _ frames.0;
      first_even = eqb-false _ 1 both.0;
      second_even = eqb-false _ 1 both.1;
    }

module _ (preambles subframes : List ℕ) (halves : Halves preambles subframes) (none : import_refusal preambles subframes ≡ 0) where
  sound : Sound preambles subframes
  sound = import_sound preambles subframes none

  abbrev begins : ℕ
  begins = begins_by (first preambles)

  half_fits : (s : ℕ) → is_too_large (sample_in s) (ancillary_in begins s) ≡ false
  half_fits s =
      taken_fits _ _ (rw (sample_is s) (mod-lt (s / 2 ^ 4) (omega arith)))
      (omega (arith, ancillary_is begins s, begins_le (first preambles), mod-lt (s / 2 ^ 28) {m = 8} (omega arith)))

  b_back : (s : ℕ) → b_of (ancillary_in begins s) ≡ begins
  b_back s = ap (λ (n : ℕ). n / 8) (ancillary_is begins s) ∙ omega (arith, mod-lt (s / 2 ^ 28) {m = 8} (omega arith))

  abbrev came : Imported
  came = imported preambles subframes

  goes : export_refusal came.samples came.ancillary ≡ 0
  goes =
      sym (export_0 came.samples came.ancillary (half_fits (first subframes)) (half_fits (second subframes))
      (b_back (first subframes) ∙ sym (b_back (second subframes))))

  same_preambles : preamble_of (b_of (first came.ancillary)) ∷ preamble_y ∷ [] ≡ preambles
  same_preambles =
      let back = preamble_back (first preambles) (second preambles) sound.frame in
      (λ i. (ap preamble_of (b_back (first subframes)) ∙ back.0) i ∷ sym back.1 i ∷ []) ∙ pair_is preambles halves.two_preambles

  came_back : SameFrame preambles subframes (exported came.samples came.ancillary)
  came_back =
      record {
        taken = refl;
        the_preambles = same_preambles;
        first_slots = same_slots begins (first subframes) halves.first_word sound.first_even;
        second_slots = same_slots begins (second subframes) halves.second_word sound.second_even;
      }

-- "Export of an imported frame gives the same slots 4 to 31 and the same preambles"
pub export_of_imported : (preambles subframes : List ℕ) → Halves preambles subframes → (import_of preambles subframes).refusal ≡ 0
    → SameFrame preambles subframes (export_of (import_of preambles subframes).samples (import_of preambles subframes).ancillary)
export_of_imported preambles subframes halves taken =
    let none = sym (demand_1_import preambles subframes _ refl).0 ∙ taken in
    subst (λ (x : Imported). SameFrame preambles subframes (export_of x.samples x.ancillary)) (import_taken preambles subframes none)
    (subst (SameFrame preambles subframes) (export_taken _ _ (goes preambles subframes halves none)) (came_back preambles subframes halves none))

module _ (samples ancillary : List ℕ) (none : export_refusal samples ancillary ≡ 0) where
  abbrev went : Exported
  went = exported samples ancillary

  b_le : b_of (first ancillary) ≤ 1
  b_le = omega (arith, (export_fits samples ancillary none).first_ancillary)

  comes : import_refusal went.preambles went.subframes ≡ 0
  comes =
      let fits = export_fits samples ancillary none in
      sym (import_0 went.preambles went.subframes (begins_back _ b_le).1
      (λ odd. omega (arith, odd, even_parity _ _ fits.first_sample fits.first_ancillary))
      (λ odd. omega (arith, odd, even_parity _ _ fits.second_sample fits.second_ancillary)))

  went_back : length samples ≡ 2 → length ancillary ≡ 2
      → imported went.preambles went.subframes ≡ record { refusal = 0; samples = samples; ancillary = ancillary }
  went_back two_samples two_ancillary =
      let fits = export_fits samples ancillary none in
      let b : begins_by (preamble_of (b_of (first ancillary))) ≡ b_of (first ancillary) = (begins_back _ b_le).0 in
      let first-a : ancillary_in (begins_by (preamble_of (b_of (first ancillary)))) (subframe_of (first samples) (first ancillary)) ≡ first ancillary =
      rw b (ancillary_back _ _ fits.first_sample fits.first_ancillary) in
      let second-a : ancillary_in (begins_by (preamble_of (b_of (first ancillary)))) (subframe_of (second samples) (second ancillary)) ≡ second ancillary =
      rw (b, fits.same_b) (ancillary_back _ _ fits.second_sample fits.second_ancillary) in
      λ i.
      record {
        refusal = 0;
        samples =
            ((λ j. sample_back _ _ fits.first_sample fits.first_ancillary j ∷ sample_back _ _ fits.second_sample fits.second_ancillary j ∷ [])
            ∙ pair_is samples two_samples) i;
        ancillary = ((λ j. first-a j ∷ second-a j ∷ []) ∙ pair_is ancillary two_ancillary) i;
      }

-- and the other way: import of an exported frame gives the same samples and ancillary numbers
pub import_of_exported : (samples ancillary : List ℕ) → length samples ≡ 2 → length ancillary ≡ 2 → (export_of samples ancillary).refusal ≡ 0
    → import_of (export_of samples ancillary).preambles (export_of samples ancillary).subframes
    ≡ record { refusal = 0; samples = samples; ancillary = ancillary }
import_of_exported samples ancillary two_samples two_ancillary taken =
    let none = sym (demand_1_export samples ancillary _ refl).0 ∙ taken in
    subst (λ (x : Exported). import_of x.preambles x.subframes ≡ record { refusal = 0; samples = samples; ancillary = ancillary })
    (export_taken samples ancillary none)
    (sym (import_taken _ _ (comes samples ancillary none)) ∙ went_back samples ancillary none two_samples two_ancillary)
