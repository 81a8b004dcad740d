-- Laws of marks: a subframe's mark by its nine bits, with V and without it.
-- Assumes nothing.
use mathlib.Core.Bool.{cond}
use mathlib.Core.Path.{◌≡◌, sym, ◌∙◌, ap, ap₂}
use Prim.Native.Nat.{ℕ, ◌+◌, ◌*◌, ◌/◌, ◌%◌, ◌-◌, ◌^◌, ◌≤◌}
use native.Mathlib.Nat.{mod-lt}
use native.Mathlib.Omega.{arith}
use borrow.Author.Tests.{ne_eqb}
use lib.Arith.{mod-mul, digits_div}
use lib.Dec.{eqb}
use Rattle.formats.specs.declared.Format.{Format}
use Rattle.guards.specs.Guards.{VOrNone, no_v, v_in, nine_of, protected_bits, ten_guard, guard_of}
use Rattle.guards.proofs.Laws.{v_none, v_some, nine_shifted, nine_down}
use Rattle.cells.specs.Cells.{guard_in, sample_in, ancillary_in, mark_in}
use Rattle.tables.specs.Marks.{mark_bit, MarksBy, MarksOf, MarksWithoutV}

-- V, by the five low bits and by the ancillary number
v_bit : (x : ℕ) → x % 32 / 16 % 2 ≡ x / 16 % 16 % 2
v_bit x =
    ap (λ (n : ℕ). n / 16 % 2) (mod-mul x {m = 2} {c = 16} (omega arith) (omega arith))
    ∙ ap (λ (n : ℕ). n % 2) (digits_div (x / 16 % 2) (mod-lt x (omega arith)))
    ∙ even (x / 16)
  where
    even : (y : ℕ) → y % 2 % 2 ≡ y % 16 % 2
    even y = omega arith

-- a subframe's mark, by the marks of its sample bits with each five low bits
module _ (f : Format) (overhead-four : f.overhead_bits ≡ 4) (subframe : ℕ) where
  mark_from : (v : ℕ → VOrNone) (nine bits : ℕ) → MarksBy v nine bits
      → ten_guard (protected_bits nine (v (subframe % 32))) ≡ guard_in f (sample_in f subframe) (ancillary_in f subframe)
      → bits / 2 ^ (subframe % 32) % 2 ≡ mark_in f subframe
  unfolding mark_bit mark_in
  mark_from v nine bits marks guards =
      let low : subframe % 32 % 8 ≡ subframe % 8 = omega arith in
      let some : f.overhead_bits ≡ 0 → ⊥ = λ e. omega (arith, e, overhead-four) in
      marks (subframe % 32) (mod-lt subframe (omega arith))
      ∙ ap₂ (λ (x y : ℕ). cond (eqb x y) 0 1) low guards
      ∙ sym (rw (ne_eqb f.overhead_bits 0 some))

  -- where ancillary and overhead have four bits each
  module _ (ancillary_four : f.ancillary_bits ≡ 4) where
    pub sample_over : subframe / 256 ≡ sample_in f subframe
    unfolding sample_in
    sample_over = rw (ancillary_four, overhead-four)

    pub ancillary_over : subframe / 16 % 16 ≡ ancillary_in f subframe
    unfolding ancillary_in
    ancillary_over = rw (ancillary_four, overhead-four)

    guards_over : ten_guard (protected_bits (nine_of f.sample_bits (subframe / 256)) (v_in (subframe % 32 / 16)))
        ≡ guard_in f (sample_in f subframe) (ancillary_in f subframe)
    unfolding guard_of protected_bits
    guards_over =
        let any : f.ancillary_bits ≡ 0 → ⊥ = λ e. omega (arith, e, ancillary_four) in
        ap₂ (λ (x y : ℕ). ten_guard (x * 2 + y)) (ap (nine_of f.sample_bits) sample_over)
        (v_bit subframe ∙ ap (λ (x : ℕ). x % 2) ancillary_over)
        ∙ ap (λ (v : VOrNone). ten_guard (protected_bits (nine_of f.sample_bits (sample_in f subframe)) v))
        (sym (v_some (ancillary_in f subframe) any))

    pub mark_on_top : (n top : ℕ) → f.sample_bits ≡ n → 8 ≤ n → top % 512 ≡ subframe / 256 * 2 / 2 ^ (n - 8) % 512 → (bits : ℕ)
        → MarksOf (top % 512) bits → bits / 2 ^ (subframe % 32) % 2 ≡ mark_in f subframe
    mark_on_top n top length-is from top-is bits marks =
        mark_from (λ low. v_in (low / 16)) (nine_of f.sample_bits (subframe / 256)) bits
        (rw (top-is ∙ nine_shifted n (subframe / 256) from ∙ ap (λ (k : ℕ). nine_of k (subframe / 256)) (sym length-is)) at marks)
        guards_over

  -- where there is overhead alone
  module _ (bare : f.ancillary_bits ≡ 0) where
    pub sample_alone : subframe / 16 ≡ sample_in f subframe
    unfolding sample_in
    sample_alone = rw (bare, overhead-four)

    guards_alone : ten_guard (protected_bits (nine_of f.sample_bits (subframe / 16)) no_v)
        ≡ guard_in f (sample_in f subframe) (ancillary_in f subframe)
    unfolding guard_of
    guards_alone =
        ap₂ (λ (s : ℕ) (v : VOrNone). ten_guard (protected_bits (nine_of f.sample_bits s) v)) sample_alone
        (sym (v_none (ancillary_in f subframe) bare))

    pub mark_alone : 9 ≤ f.sample_bits → (bits : ℕ) → MarksWithoutV (subframe / 16 / 2 ^ (f.sample_bits - 9) % 512) bits
        → bits / 2 ^ (subframe % 32) % 2 ≡ mark_in f subframe
    mark_alone from bits marks =
        mark_from (λ low. no_v) (nine_of f.sample_bits (subframe / 16)) bits
        (rw (nine_down f.sample_bits (subframe / 16) from) at marks) guards_alone
