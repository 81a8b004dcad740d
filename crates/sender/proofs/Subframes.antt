-- Laws of one subframe: the code's arithmetic on it, with overhead and without.
-- Assumes nothing.
use Rattle.std.proofs.Common.{◌≡◌, ℕ, ◌+◌, ◌-◌, ◌*◌, ◌/◌, ◌%◌, ◌^◌, ◌<◌, ◌≤◌, cond, eqb, sym, refl, ap, ◌∙◌, subst, ap₂, mul_assoc, mul-one, arith, eqb→eq, pow_mono, pow-add, shl_exact, eq-eqb, ne_eqb, eqb-true}
use borrow.Author.Tests.{eqb-false}
use lib.Arith.{digits_lt}
use lib.Bits.{bit_xor}
use Rattle.runs.specs.Test.{every}
use Rattle.runs.proofs.Arms.{NoneOf, or_listed, others, singles}
use Rattle.runs.proofs.Laws.{every_at, split}
use Rattle.formats.specs.declared.Format.{Format}
use Rattle.guards.specs.Guards.{VOrNone, v_in, v_of, nine_of, protected_bits, ten_guard, guard_of}
use Rattle.guards.proofs.Laws.{v_none, v_some, nine_lt, nine_top, with_v_lem, ten_guard_lt, guard_le}
use Rattle.cells.specs.Cells.{guard_in, overhead_of, subframe_of}
use Rattle.sender.specs.Packing.{Named, low_part}

-- a subframe's last octet, by the bits of the sample and those of the ancillary number
low_parts : {guard few : ℕ} → guard < 8 → few < 16
    → bit_xor guard (few % 16 * 16 + few % 16 % 2 * 3) ≡ few * 16 + bit_xor guard (few % 2 * 3)
unfolding every
low_parts {guard} {few} hg hf =
    let high : (guard * 16 + few) / 16 ≡ guard = omega arith in
    let rest : (guard * 16 + few) % 16 ≡ few = omega arith in
    subst
    (λ (g : ℕ). bit_xor g (few % 16 * 16 + few % 16 % 2 * 3) ≡ few * 16 + bit_xor g (few % 2 * 3)) high
    (subst
    (λ (a : ℕ).
    bit_xor ((guard * 16 + few) / 16) (a % 16 * 16 + a % 16 % 2 * 3) ≡ a * 16 + bit_xor ((guard * 16 + few) / 16) (a % 2 * 3))
    rest
    (eqb→eq _ _
    (every_at
    (λ k.
    eqb (bit_xor (k / 16) (k % 16 % 16 * 16 + k % 16 % 16 % 2 * 3)) (k % 16 * 16 + bit_xor (k / 16) (k % 16 % 2 * 3)))
    128 tt (guard * 16 + few) (omega arith))))

-- the last arm of the ancillary number's part of it
pub low_rest : (X : Type 0) (few : ℕ) → few < 16 → NoneOf X (singles 15) few → 243 ≡ few * 16 + few % 2 * 3
unfolding every or_listed
low_rest X few less none = eqb→eq _ _ (others X (singles 15) (λ k. eqb 243 (k * 16 + k % 2 * 3)) 16 tt few less none)

-- and where there is no ancillary field
alone : {guard : ℕ} → guard < 8 → bit_xor guard 0 ≡ guard
unfolding every
alone {guard} less = eqb→eq _ _ (every_at (λ k. eqb (bit_xor k 0) k) 8 tt guard less)

pub no_low : {bits : ℕ} (ancillary : ℕ) → bits ≡ 0 → 0 ≡ low_part bits ancillary
unfolding low_part
no_low ancillary bare = rw (eq-eqb _ _ bare)

pub some_low : {bits : ℕ} (ancillary : ℕ) {low : ℕ} → (bits ≡ 0 → ⊥) → low ≡ ancillary % 16 * 16 + ancillary % 16 % 2 * 3
    → low ≡ low_part bits ancillary
unfolding low_part
some_low ancillary any e = e ∙ rw (ne_eqb _ _ any)

-- what is protected where V is 0, or there is none
pub nine_alone : {bits : ℕ} (nine : ℕ) → bits ≡ 0 → nine ≡ protected_bits nine (v_of bits 0)
unfolding protected_bits
nine_alone nine bare = rw (v_none 0 bare)

pub nine_and_v : {bits : ℕ} (nine : ℕ) → (bits ≡ 0 → ⊥) → nine * 2 ≡ protected_bits nine (v_of bits 0)
unfolding protected_bits
nine_and_v nine any = rw (v_some 0 any) (omega arith)

-- the nine top bits of a sample as the code shifts them down, and the protection bits that the table has for what is protected
module _ (bits few : ℕ) {sample : ℕ} (from : 8 ≤ bits) (small : sample < 2 ^ bits) where
  abbrev nine : ℕ
  nine = sample * 2 / 2 ^ (bits - 8)

  pub nine_fits : nine < 512
  nine_fits = rw (nine_top bits from small) (nine_lt bits sample)

  pub guard_of_nine : {ten : ℕ} → ten ≡ protected_bits nine (v_of few 0) → ten_guard ten ≡ guard_of bits sample (v_of few 0)
  unfolding guard_of
  guard_of_nine ten-is =
      ap ten_guard (ten-is ∙ ap (λ (n : ℕ). protected_bits n (v_of few 0)) (nine_top bits from small))

  pub twice_fits : bits ≤ 40 → sample * 2 < 2 ^ 64
  twice_fits to =
      let far : 2 ^ bits ≤ 2 ^ 40 = pow_mono {i = bits} {j = 40} to in
      omega arith

-- the protection bits that a table has for 24 bits' top nine
pub guard_of_24 : {sample guard : ℕ} → sample < 2 ^ 24 → guard ≡ ten_guard (protected_bits (sample / 32768 % 512) (v_in 0))
    → guard ≡ guard_of 24 sample (v_of 4 0)
unfolding guard_of v_of
guard_of_24 {sample} small e =
    let top : sample / 32768 % 512 ≡ sample * 2 / 2 ^ (24 - 8) = omega arith in
    e ∙ ap (λ (m : ℕ). ten_guard (protected_bits m (v_in 0))) (top ∙ nine_top 24 (omega arith) small)

-- a subframe with overhead: what the code adds up
module _ (sample-bits ancillary-bits sample ancillary : ℕ) {guard low bit : ℕ}
    (short : sample-bits ≤ 40) (few : ancillary-bits ≤ 4) (hs : sample < 2 ^ sample-bits)
    (guard-is : guard ≡ guard_of sample-bits sample (v_of ancillary-bits 0)) (ha : ancillary < 2 ^ ancillary-bits) (hb : bit < 2)
    (low_is : low ≡ low_part ancillary-bits ancillary)
  where
    few_ancillary : ancillary < 16
    few_ancillary =
        let far : 2 ^ ancillary-bits ≤ 2 ^ 4 = pow_mono {i = ancillary-bits} {j = 4} few in
        omega arith

    abbrev guarded : ℕ
    guarded = guard_of sample-bits sample (v_of ancillary-bits ancillary)

    low_without : ancillary-bits ≡ 0 → bit_xor guard low ≡ ancillary * 16 + guarded
    low_without bare =
        let one : 2 ^ ancillary-bits ≡ 1 = ap (λ (n : ℕ). 2 ^ n) bare in
        let none : 0 ≡ ancillary = omega arith in
        ap₂ bit_xor guard-is (low_is ∙ sym (no_low ancillary bare))
        ∙ alone (let small = guard_le sample-bits sample (v_of ancillary-bits 0) in omega arith)
        ∙ (let below : guard_of sample-bits sample (v_of ancillary-bits 0) ≡ 0 * 16 + guard_of sample-bits sample (v_of ancillary-bits 0)
        = omega arith in below)
        ∙ ap (λ (a : ℕ). a * 16 + guard_of sample-bits sample (v_of ancillary-bits a)) none

    low_with : (ancillary-bits ≡ 0 → ⊥) → bit_xor guard low ≡ ancillary * 16 + guarded
    unfolding guard_of
    low_with any =
        ap₂ bit_xor (guard-is ∙ ap (guard_of sample-bits sample) (v_some 0 any)) (low_is ∙ sym (some_low ancillary any refl))
        ∙ low_parts (ten_guard_lt (protected_bits (nine_of sample-bits sample) (v_in 0))) few_ancillary
        ∙ ap (λ (g : ℕ). ancillary * 16 + g) (with_v_lem ancillary (nine_lt sample-bits sample))
        ∙ ap (λ (v : VOrNone). ancillary * 16 + guard_of sample-bits sample v) (sym (v_some ancillary any))

    low_octet : bit_xor guard low ≡ ancillary * 16 + guarded
    low_octet =
        split (eqb ancillary-bits 0) (λ e. low_without (eqb-true ancillary-bits 0 e)) (λ e. low_with (eqb-false ancillary-bits 0 e))

    pub low_fits : bit_xor guard low + bit * 8 < 256 + 16
    low_fits = omega (arith, low_octet, few_ancillary, guard_le sample-bits sample (v_of ancillary-bits ancillary))

    pub subframe_by : (sample * 2 ^ (ancillary-bits + 4)) % 2 ^ 64 + (bit_xor guard low + bit * 8)
        ≡ (sample * 2 ^ ancillary-bits + ancillary) * 16 + (bit * 8 + guarded)
    subframe_by =
        let moved : (sample * 2 ^ (ancillary-bits + 4)) % 2 ^ 64 ≡ sample * 2 ^ ancillary-bits * 16
        = shl_exact sample-bits (ancillary-bits + 4) 64 hs (omega arith)
        ∙ ap (λ (n : ℕ). sample * n) (pow-add 2 ancillary-bits 4)
        ∙ sym (mul_assoc sample (2 ^ ancillary-bits) 16) in
        omega (arith, moved, low_octet)

    pub subframe_fits : (sample * 2 ^ (ancillary-bits + 4)) % 2 ^ 64 + (bit_xor guard low + bit * 8) < 2 ^ 64
    subframe_fits =
        let both : 2 ^ sample-bits * 2 ^ ancillary-bits ≡ 2 ^ (sample-bits + ancillary-bits) = sym (pow-add 2 sample-bits ancillary-bits) in
        let far : 2 ^ (sample-bits + ancillary-bits) ≤ 2 ^ 44 = pow_mono {i = sample-bits + ancillary-bits} {j = 44} (omega arith) in
        omega (arith, subframe_by, both, digits_lt hs ha, guard_le sample-bits sample (v_of ancillary-bits ancillary))

-- what a format's numbers make of it
module _ {f : Format} {sample-bits ancillary-bits width : ℕ} (sample ancillary bit : ℕ) where
  pub guarded_is : Named f sample-bits ancillary-bits 4 width
      → (sample * 2 ^ ancillary-bits + ancillary) * 16 + (bit * 8 + guard_of sample-bits sample (v_of ancillary-bits ancillary))
      ≡ subframe_of f sample ancillary bit
  unfolding subframe_of overhead_of
  guarded_is named =
      ap₂ (λ (n a : ℕ). (sample * 2 ^ a + ancillary) * 16 + (bit * 8 + guard_of n sample (v_of a ancillary)))
      named.sample_is named.ancillary_is
      ∙ ap
      (λ (o : ℕ).
      (sample * 2 ^ f.ancillary_bits + ancillary) * 2 ^ o + cond (eqb o 0) 0 (bit * 8 + guard_in f sample ancillary))
      named.overhead_is

  module _ (named : Named f sample-bits ancillary-bits 0 width) (short : sample-bits + ancillary-bits ≤ 63) (hs : sample < 2 ^ sample-bits) where
    pub plain_moved : (sample * 2 ^ ancillary-bits) % 2 ^ 64 ≡ sample * 2 ^ ancillary-bits
    plain_moved = shl_exact sample-bits ancillary-bits 64 hs (omega arith)

    pub plain_is : (sample * 2 ^ ancillary-bits) % 2 ^ 64 + ancillary ≡ subframe_of f sample ancillary bit
    unfolding subframe_of overhead_of
    plain_is =
        ap (λ (n : ℕ). n + ancillary) plain_moved
        ∙ ap (λ (a : ℕ). sample * 2 ^ a + ancillary) named.ancillary_is
        ∙ (let alone : sample * 2 ^ f.ancillary_bits + ancillary ≡ (sample * 2 ^ f.ancillary_bits + ancillary) * 2 ^ 0 + 0
        = omega (arith, mul-one (sample * 2 ^ f.ancillary_bits + ancillary)) in alone)
        ∙ ap
        (λ (o : ℕ).
        (sample * 2 ^ f.ancillary_bits + ancillary) * 2 ^ o + cond (eqb o 0) 0 (bit * 8 + guard_in f sample ancillary))
        named.overhead_is

    pub plain_fits : ancillary < 2 ^ ancillary-bits → (sample * 2 ^ ancillary-bits) % 2 ^ 64 + ancillary < 2 ^ 64
    plain_fits ha =
        let both : 2 ^ sample-bits * 2 ^ ancillary-bits ≡ 2 ^ (sample-bits + ancillary-bits) = sym (pow-add 2 sample-bits ancillary-bits) in
        let far : 2 ^ (sample-bits + ancillary-bits) ≤ 2 ^ 63 = pow_mono {i = sample-bits + ancillary-bits} {j = 63} short in
        omega (arith, plain_moved, both, digits_lt hs ha)
