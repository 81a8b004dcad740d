-- Wrong answers to the public functions: their contracts rule them out. Stated over the contracts themselves.
-- Assumes nothing.
use mathlib.Core.Path.{◌≡◌, refl, ◌∙◌, ap}
use Prim.Native.Nat.{ℕ, ◌/◌, ◌%◌, ◌^◌, ◌<◌}
use native.Mathlib.Omega.{arith}
use contract.Lifetimes.{Lfts}
use Rattle.runs.specs.Division.{coefficients, divided, taken_down}
use Rattle.runs.proofs.Wrong.{Never}
use Rattle.guards.specs.Guards.{VOrNone, no_v, v_in, protected_bits, ten_guard}
use Rattle.tables.specs.Marks.{mark_bit, MarksBy, MarksOf}
use Rattle.tables.proofs.protection.Kinds as protection-kinds
use Rattle.tables.proofs.protection.Reads as protection-reads
use Rattle.tables.proofs.marks.Kinds as marks-kinds
use Rattle.tables.proofs.marks.Reads as marks-reads
use Rattle.tables.proofs.marks_without_v.Kinds as bare-kinds
use Rattle.tables.proofs.marks_without_v.Reads as bare-reads

unfoldable unfolded : Unit {0}
unfolding coefficients divided taken_down protected_bits ten_guard mark_bit
unfolded = tt

module _ (κs : Lfts 0) where
  -- the remainder and not its complement
  pub protection_not_the_remainder : Never protection-kinds.ps protection-kinds.r protection-reads.Post κs (0, tt) (λ x v. x ≡ 0)
  unfolding unfolded
  protection_not_the_remainder x v wrong p = omega arith

  -- the remainder by x^3 + x^2 + 1
  pub protection_not_by_another_polynomial : Never protection-kinds.ps protection-kinds.r protection-reads.Post κs (1, tt) (λ x v. x ≡ 2)
  unfolding unfolded
  protection_not_by_another_polynomial x v wrong p = omega arith

  -- every subframe sound, and none; V left out: with V the bits 100 are what 111 is without it
  always_0 : {x : ℕ} (v : ℕ → VOrNone) (nine : ℕ) → mark_bit nine (v 0) 0 ≡ 1 → MarksBy v nine x × (x < 4294967296) → x ≡ 0 → ⊥
  always_0 {x} v nine marked p wrong =
      let first : x / 2 ^ 0 % 2 ≡ 1 = p.0 0 (omega arith) ∙ marked in
      let none : x / 2 ^ 0 % 2 ≡ 0 = ap (λ (n : ℕ). n / 2 ^ 0 % 2) wrong in
      omega arith

  always_1 : {x : ℕ} (v : ℕ → VOrNone) (nine : ℕ) → mark_bit nine (v 7) 7 ≡ 0 → MarksBy v nine x × (x < 4294967296) → x ≡ 0xFFFFFFFF → ⊥
  always_1 {x} v nine sound p wrong =
      let none : x / 2 ^ 7 % 2 ≡ 0 = p.0 7 (omega arith) ∙ sound in
      let marked : x / 2 ^ 7 % 2 ≡ 1 = ap (λ (n : ℕ). n / 2 ^ 7 % 2) wrong in
      omega arith

  without_v : {x : ℕ} (nine : ℕ) → mark_bit nine (v_in 1) 20 ≡ 0 → MarksOf nine x × (x < 4294967296) → x ≡ 0x7F7F7F7F → ⊥
  without_v {x} nine sound p wrong =
      let none : x / 2 ^ 20 % 2 ≡ 0 = p.0 20 (omega arith) ∙ sound in
      let marked : x / 2 ^ 20 % 2 ≡ 1 = ap (λ (n : ℕ). n / 2 ^ 20 % 2) wrong in
      omega arith

  pub marks_not_always_0 : Never marks-kinds.ps marks-kinds.r marks-reads.Post κs (0, tt) (λ x v. x ≡ 0)
  unfolding unfolded
  marks_not_always_0 x v wrong p = always_0 (λ low. v_in (low / 16)) 0 refl p wrong

  pub marks_not_always_1 : Never marks-kinds.ps marks-kinds.r marks-reads.Post κs (0, tt) (λ x v. x ≡ 0xFFFFFFFF)
  unfolding unfolded
  marks_not_always_1 x v wrong p = always_1 (λ low. v_in (low / 16)) 0 refl p wrong

  pub marks_not_without_v : Never marks-kinds.ps marks-kinds.r marks-reads.Post κs (0, tt) (λ x v. x ≡ 0x7F7F7F7F)
  unfolding unfolded
  marks_not_without_v x v wrong p = without_v 0 refl p wrong

  pub marks_without_v_not_always_0 : Never bare-kinds.ps bare-kinds.r bare-reads.Post κs (0, tt) (λ x v. x ≡ 0)
  unfolding unfolded
  marks_without_v_not_always_0 x v wrong p = always_0 (λ low. no_v) 0 refl p wrong

  pub marks_without_v_not_always_1 : Never bare-kinds.ps bare-kinds.r bare-reads.Post κs (0, tt) (λ x v. x ≡ 0xFFFFFFFF)
  unfolding unfolded
  marks_without_v_not_always_1 x v wrong p = always_1 (λ low. no_v) 0 refl p wrong

  -- the marks with V = 0: the ninth bit alone has 100 without V, and 001 with it
  pub marks_without_v_not_as_if_v_were_0 : Never bare-kinds.ps bare-kinds.r bare-reads.Post κs (1, tt) (λ x v. x ≡ 0xFDFDFDFD)
  unfolding unfolded
  marks_without_v_not_as_if_v_were_0 x v wrong p =
      let sound : x / 2 ^ 4 % 2 ≡ 0 = p.0 4 (omega arith) in
      let marked : x / 2 ^ 4 % 2 ≡ 1 = ap (λ (n : ℕ). n / 2 ^ 4 % 2) wrong in
      omega arith
