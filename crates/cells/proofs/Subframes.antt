-- One subframe there and back, and a slot's subframe in a whole cell, for every format at once.
-- Assumes nothing.
use Rattle.std.proofs.Common.{◌≡◌, ℕ, suc, ◌+◌, ◌*◌, ◌/◌, ◌%◌, ◌^◌, ◌<◌, ◌≤◌, Bool, cond, eqb, sym, ap, ◌∙◌, mul-le-mul_right, suc-mul, add_comm, arith, pow_pos, pow-add, shr-shr, eq-eqb, ne_eqb}
use borrow.Author.Tests.{eqb-false}
use lib.Arith.{digits_div, digits_mod, digits_lt}
use Rattle.runs.proofs.Laws as runs
use Rattle.runs.proofs.Laws.{split}
use Rattle.formats.specs.declared.Format.{Format}
use Rattle.formats.specs.Sound.{Sound}
use Rattle.guards.proofs.Laws as guards
use Rattle.cells.specs.Cells.{guard_in, overhead_of, subframe_of, sample_in, ancillary_in, mark_in}

pub octets_pow : (w : ℕ) → 2 ^ (8 * w) ≡ 256 ^ w
octets_pow w = runs.octets_pow w

-- bits of a part are four or none
four_of : (n : ℕ) → n % 4 ≡ 0 → n ≤ 4 → (n ≡ 0 → ⊥) → n ≡ 4
four_of n e h some = omega arith

pub guard_le : (f : Format) (sample ancillary : ℕ) → guard_in f sample ancillary ≤ 7
guard_le f sample ancillary = guards.guard_le f.sample_bits sample _

-- "protection of sample 0 with V 0 is 111", and without V too
pub guard_zero : (f : Format) → guard_in f 0 0 ≡ 7
guard_zero f = guards.guard_zero f.sample_bits f.ancillary_bits

module _ {f : Format} (s : Sound f) where
  -- a slot lies within the cell
  pub slot_room : {slot : ℕ} → slot < f.slots → slot * f.width + f.width ≤ 48
  slot_room {slot} less =
      omega (arith, suc-mul slot f.width, mul-le-mul_right {m = suc slot} {n = f.slots} f.width less, s.cell)

  -- overhead is four bits or none
  pub four : (f.overhead_bits ≡ 0 → ⊥) → f.overhead_bits ≡ 4
  four some = four_of f.overhead_bits s.overhead_fours s.overhead_to some

  pub four_ancillary : (f.ancillary_bits ≡ 0 → ⊥) → f.ancillary_bits ≡ 4
  four_ancillary some = four_of f.ancillary_bits s.ancillary_fours s.ancillary_to some

  overhead_lt : (sample ancillary : ℕ) {bit : ℕ} → bit < 2 → overhead_of f sample ancillary bit < 2 ^ f.overhead_bits
  unfolding overhead_of
  overhead_lt sample ancillary {bit} h =
      split (eqb f.overhead_bits 0)
      (λ e. rw e (pow_pos f.overhead_bits))
      (λ e.
      rw (e, four (eqb-false f.overhead_bits 0 e))
      (omega (arith, h, guard_le f sample ancillary)))

  module _ {sample ancillary bit : ℕ} (hs : sample < 2 ^ f.sample_bits) (ha : ancillary < 2 ^ f.ancillary_bits) (hb : bit < 2) where
    pub subframe_lt : subframe_of f sample ancillary bit < 256 ^ f.width
    unfolding subframe_of
    subframe_lt =
        let whole : 2 ^ f.sample_bits * 2 ^ f.ancillary_bits * 2 ^ f.overhead_bits ≡ 256 ^ f.width
        = ap (λ (n : ℕ). n * 2 ^ f.overhead_bits) (sym (pow-add 2 f.sample_bits f.ancillary_bits))
        ∙ sym (pow-add 2 (f.sample_bits + f.ancillary_bits) f.overhead_bits)
        ∙ ap (λ (k : ℕ). 2 ^ k) s.bits
        ∙ octets_pow f.width in
        rw whole at (digits_lt (digits_lt hs ha) (overhead_lt sample ancillary hb))

    pub sample_back : sample_in f (subframe_of f sample ancillary bit) ≡ sample
    unfolding sample_in subframe_of
    sample_back =
        ap (λ (k : ℕ). subframe_of f sample ancillary bit / 2 ^ k) (add_comm f.ancillary_bits f.overhead_bits)
        ∙ sym (shr-shr (subframe_of f sample ancillary bit) f.overhead_bits f.ancillary_bits)
        ∙ ap (λ (n : ℕ). n / 2 ^ f.ancillary_bits)
        (digits_div (sample * 2 ^ f.ancillary_bits + ancillary) (overhead_lt sample ancillary hb))
        ∙ digits_div sample ha

    pub ancillary_back : ancillary_in f (subframe_of f sample ancillary bit) ≡ ancillary
    unfolding ancillary_in subframe_of
    ancillary_back =
        ap (λ (n : ℕ). n % 2 ^ f.ancillary_bits)
        (digits_div (sample * 2 ^ f.ancillary_bits + ancillary) (overhead_lt sample ancillary hb))
        ∙ digits_mod sample ha

    module _ (some : f.overhead_bits ≡ 0 → ⊥) where
      low_back : subframe_of f sample ancillary bit % 16 ≡ bit * 8 + guard_in f sample ancillary
      unfolding subframe_of overhead_of
      low_back =
          rw (ne_eqb f.overhead_bits 0 some, four some)
          (digits_mod (sample * 2 ^ f.ancillary_bits + ancillary) (omega (arith, hb, guard_le f sample ancillary)))

      pub guard_back : subframe_of f sample ancillary bit % 8 ≡ guard_in f sample ancillary
      guard_back = omega (arith, low_back, guard_le f sample ancillary)

      pub bit_back : subframe_of f sample ancillary bit / 8 % 2 ≡ bit
      bit_back = omega (arith, low_back, guard_le f sample ancillary)

    pub mark_back : mark_in f (subframe_of f sample ancillary bit) ≡ 0
    unfolding mark_in
    mark_back =
        split (eqb f.overhead_bits 0)
        (λ e. rw e)
        (λ e.
        rw (e, sample_back, ancillary_back)
        (ap (λ (b : Bool). cond b 0 1)
        (eq-eqb _ _ (guard_back (eqb-false f.overhead_bits 0 e)))))
