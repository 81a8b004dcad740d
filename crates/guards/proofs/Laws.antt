-- Laws of the protection bits: the two sentences of clause 4.1.4.2, the nine top bits of a sample of any length, and the fold to
-- seven bits by one test over all tens.
-- Assumes nothing.
use mathlib.Core.List.{List, [], ◌∷◌}
use mathlib.Core.Path.{◌≡◌, refl, sym, ◌∙◌, ap, ap₂}
use Prim.Native.Nat.{ℕ, ◌+◌, ◌*◌, ◌/◌, ◌%◌, ◌-◌, ◌^◌, ◌≤◌, ◌<◌}
use native.Mathlib.Nat.{mod-lt, mod-eq_of_lt, zero-div, div-lt_iff_lt-mul, mul-div-mul_right}
use native.Mathlib.Omega.{arith}
use borrow.Author.Tests.{eq-eqb, ne_eqb}
use lib.Bits.{bit_xor}
use lib.Dec.{eqb, eqb→eq}
use lib.ListN.{get_or}
use lib.Pow.{pow-add, pow_pos}
use Rattle.runs.specs.Division.{coefficients, divided, taken_down, remainder}
use Rattle.runs.specs.Runs.{tab}
use Rattle.runs.specs.Test.{every}
use Rattle.runs.proofs.Laws.{every_at, split, get_or_tab}
use Rattle.guards.specs.Guards.{VOrNone, no_v, v_in, v_of, nine_of, protected_bits, ten_guard, guard_of}
use Rattle.guards.specs.Code.{seven_guards}

pub nine_lt : (bits sample : ℕ) → nine_of bits sample < 512
unfolding nine_of
nine_lt bits sample = mod-lt _ (omega arith)

-- V by the width of the ancillary field
pub v_none : {bits : ℕ} (ancillary : ℕ) → bits ≡ 0 → v_of bits ancillary ≡ no_v
unfolding v_of
v_none ancillary bare = rw (eq-eqb _ _ bare)

pub v_some : {bits : ℕ} (ancillary : ℕ) → (bits ≡ 0 → ⊥) → v_of bits ancillary ≡ v_in ancillary
unfolding v_of
v_some ancillary any = rw (ne_eqb _ _ any)

-- "If the ancillary data field contains a V bit, the three data protection bits shall contain the 1's complement of the remainder of
-- the division (modulo 2) by the generator polynomial x3 + x + 1 of the sum of the product x4 multiplied by the most significant nine
-- bits of the audio sample and the product x3 multiplied by the V-bit."
pub first_sentence : (bits sample v : ℕ)
    → guard_of bits sample (v_in v) ≡ 7 - remainder 3 0b1011 13 (nine_of bits sample * 2 ^ 4 + v % 2 * 2 ^ 3)
unfolding guard_of protected_bits ten_guard
first_sentence bits sample v =
    ap (λ (p : ℕ). 7 - remainder 3 0b1011 13 p)
    (let same : (nine_of bits sample * 2 + v % 2) * 8 ≡ nine_of bits sample * 16 + v % 2 * 8 = omega arith in same)

-- "Otherwise, the three data protection bits shall contain the 1's complement of the remainder of the division (modulo 2) by the
-- generator polynomial x3 + x + 1 of the product x3 multiplied by the most significant nine bits of the audio sample."
pub second_sentence : (bits sample : ℕ) → guard_of bits sample no_v ≡ 7 - remainder 3 0b1011 12 (nine_of bits sample * 2 ^ 3)
unfolding guard_of protected_bits ten_guard coefficients divided taken_down
second_sentence bits sample =
    let top : nine_of bits sample * 8 / 2 ^ 12 % 2 ≡ 0 = omega (arith, nine_lt bits sample) in
    ap (λ (b : ℕ). 7 - divided 3 0b1011 (taken_down 3 0b1011 0 b) (coefficients 12 (nine_of bits sample * 8))) top

pub guard_le : (bits sample : ℕ) (v : VOrNone) → guard_of bits sample v ≤ 7
unfolding guard_of ten_guard
guard_le bits sample v = omega arith

nine_zero : (bits : ℕ) → nine_of bits 0 ≡ 0
unfolding nine_of
nine_zero bits = ap (λ (n : ℕ). n % 512) (zero-div (2 ^ bits))

ten_zero : ten_guard 0 ≡ 7
unfolding ten_guard coefficients divided taken_down
ten_zero = refl

no_bits : (few : ℕ) → protected_bits 0 (v_of few 0) ≡ 0
unfolding v_of protected_bits
no_bits few = split (eqb few 0) (λ e. rw e) (λ e. rw e)

-- "protection of sample 0 with V 0 is 111", for samples of any length, and without V too
pub guard_zero : (bits few : ℕ) → guard_of bits 0 (v_of few 0) ≡ 7
unfolding guard_of
guard_zero bits few =
    ap (λ (n : ℕ). ten_guard (protected_bits n (v_of few 0))) (nine_zero bits) ∙ ap ten_guard (no_bits few) ∙ ten_zero

pub ten_guard_lt : (ten : ℕ) → ten_guard ten < 8
unfolding ten_guard
ten_guard_lt ten = omega arith

above_eight : (bits : ℕ) → 8 ≤ bits → 2 ^ (bits - 8) * 256 ≡ 2 ^ bits
above_eight bits long =
    sym (pow-add 2 (bits - 8) 8) ∙ ap (λ (k : ℕ). 2 ^ k) (let whole : bits - 8 + 8 ≡ bits = omega arith in whole)

-- the nine top bits by one shift; a sample that fits its bits has no others
pub nine_shifted : (bits sample : ℕ) → 8 ≤ bits → sample * 2 / 2 ^ (bits - 8) % 512 ≡ nine_of bits sample
unfolding nine_of
nine_shifted bits sample long =
    ap (λ (n : ℕ). n % 512)
    (sym (mul-div-mul_right {m = 256} (sample * 2) (2 ^ (bits - 8)) (omega arith))
    ∙ ap₂ (λ (n d : ℕ). n / d) (let e : sample * 2 * 256 ≡ sample * 512 = omega arith in e) (above_eight bits long))

pub nine_top : (bits : ℕ) {sample : ℕ} → 8 ≤ bits → sample < 2 ^ bits → sample * 2 / 2 ^ (bits - 8) ≡ nine_of bits sample
nine_top bits {sample} long small =
    sym (mod-eq_of_lt ((div-lt_iff_lt-mul (pow_pos (bits - 8))).1 (omega (arith, above_eight bits long))))
    ∙ nine_shifted bits sample long

-- where a sample has nine bits: they are what is left when the others are shifted out
pub nine_down : (bits sample : ℕ) → 9 ≤ bits → sample / 2 ^ (bits - 9) % 512 ≡ nine_of bits sample
nine_down bits sample long =
    ap (λ (n : ℕ). n % 512)
    (sym (mul-div-mul_right {m = 2} sample (2 ^ (bits - 9)) (omega arith))
    ∙ ap (λ (d : ℕ). sample * 2 / d)
    (sym (pow-add 2 (bits - 9) 1) ∙ ap (λ (k : ℕ). 2 ^ k) (let one : bits - 9 + 1 ≡ bits - 8 = omega arith in one)))
    ∙ nine_shifted bits sample (omega arith)

-- ten bits have the bits of the seven that they are folded to
pub seven_guard : {ten : ℕ} → ten < 1024 → get_or seven_guards (bit_xor ten (ten / 128) % 128) 0 ≡ ten_guard ten
unfolding every seven_guards tab guard_of nine_of protected_bits ten_guard coefficients divided taken_down
seven_guard {ten} h =
    eqb→eq (get_or seven_guards (bit_xor ten (ten / 128) % 128) 0) (ten_guard ten)
    (every_at (λ k. eqb (get_or seven_guards (bit_xor k (k / 128) % 128) 0) (ten_guard k)) 1024 tt ten h)

-- each entry, of a subframe with no V and of one with V
pub seven_alone : {sample : ℕ} → sample < 128 → get_or seven_guards sample 0 ≡ guard_of 9 sample no_v
unfolding seven_guards
seven_alone h = get_or_tab (λ n. guard_of 9 n no_v) 128 h

-- a sample of nine bits is its nine bits
nine_itself : {sample : ℕ} → sample < 512 → nine_of 9 sample ≡ sample
unfolding every nine_of
nine_itself {sample} h = eqb→eq _ _ (every_at (λ k. eqb (nine_of 9 k) k) 512 tt sample h)

pub seven_with_v : (sample v : ℕ) → sample < 64 → v < 2 → get_or seven_guards (sample * 2 + v) 0 ≡ guard_of 9 sample (v_in v)
unfolding guard_of protected_bits
seven_with_v sample v h small =
    let bits : nine_of 9 (sample * 2 + v) ≡ sample * 2 + v = nine_itself (omega arith) in
    let nine : nine_of 9 sample ≡ sample = nine_itself (omega arith) in
    let same : nine_of 9 (sample * 2 + v) ≡ nine_of 9 sample * 2 + v % 2 = omega (arith, bits, nine) in
    seven_alone {sample = sample * 2 + v} (omega arith) ∙ ap ten_guard same

-- what V adds to the bits of nine sample bits
pub with_v_lem : {nine : ℕ} (v : ℕ) → nine < 512
    → bit_xor (ten_guard (protected_bits nine (v_in 0))) (v % 2 * 3) ≡ ten_guard (protected_bits nine (v_in v))
unfolding protected_bits every ten_guard coefficients divided taken_down
with_v_lem {nine} v h =
    let ten : ℕ = nine * 2 + v % 2 in
    let half : ten / 2 * 2 ≡ nine * 2 + 0 = omega arith in
    let odd : ten % 2 ≡ v % 2 = omega arith in
    ap₂ (λ (n b : ℕ). bit_xor (ten_guard n) (b * 3)) (sym half) (sym odd)
    ∙ eqb→eq _ _
    (every_at (λ k. eqb (bit_xor (ten_guard (k / 2 * 2)) (k % 2 * 3)) (ten_guard k)) 1024 tt ten (omega arith))

-- the bits of nine sample bits without V, by those with V = 0
abbrev pub guards_without_v : List ℕ
guards_without_v = 1 ∷ 4 ∷ 0 ∷ 5 ∷ 3 ∷ 6 ∷ 2 ∷ 7 ∷ []

pub without_v : {nine : ℕ} → nine < 512
    → get_or guards_without_v (ten_guard (protected_bits nine (v_in 0))) 0 ≡ ten_guard (protected_bits nine no_v)
unfolding protected_bits every ten_guard coefficients divided taken_down
without_v {nine} h =
    eqb→eq _ _ (every_at (λ k. eqb (get_or guards_without_v (ten_guard (k * 2 + 0)) 0) (ten_guard k)) 512 tt nine h)
