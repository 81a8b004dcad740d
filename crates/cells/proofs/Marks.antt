-- Laws of a subframe's mark: what the table of protection bits says of it.
-- Assumes nothing.
use Rattle.std.proofs.Common.{◌≡◌, ℕ, ◌/◌, ◌%◌, ◌<◌, eqb, List, get_or, sym, ap, ◌∙◌, arith, eq-eqb, ne_eqb}
use lib.Bits.{bit_xor}
use Rattle.runs.proofs.Laws.{split}
use Rattle.formats.specs.declared.Format.{Format}
use Rattle.guards.specs.Guards.{nine_of, protected_bits, v_of, ten_guard, guard_of}
use Rattle.guards.specs.Code.{seven_guards}
use Rattle.guards.proofs.Laws.{seven_guard}
use Rattle.cells.specs.Cells.{guard_in, sample_in, ancillary_in, mark_in}
use Rattle.cells.proofs.Subframes.{guard_le}

-- none without overhead
pub mark_plain : (f : Format) (subframe : ℕ) → f.overhead_bits ≡ 0 → (0 ≡ mark_in f subframe) × (0 < 2)
unfolding mark_in
mark_plain f subframe none = (rw (eq-eqb _ _ none), omega arith)

-- by the entry of the table for the bits that are protected
module _ (f : Format) (subframe : ℕ) (any : f.overhead_bits ≡ 0 → ⊥) {table : List ℕ} {ten : ℕ} (same : table ≡ seven_guards)
    (ten-is : ten ≡ protected_bits (nine_of f.sample_bits (sample_in f subframe))
    (v_of f.ancillary_bits (ancillary_in f subframe)))
    (less : ten < 1024)
  where
    abbrev found : ℕ
    found = get_or table (bit_xor ten (ten / 128) % 128) 0

    looked : found ≡ guard_in f (sample_in f subframe) (ancillary_in f subframe)
    unfolding guard_of
    looked = ap (λ (l : List ℕ). get_or l (bit_xor ten (ten / 128) % 128) 0) same ∙ seven_guard less ∙ ap ten_guard ten-is

    pub found_small : found < 8
    found_small = let small = guard_le f (sample_in f subframe) (ancillary_in f subframe) in omega (arith, looked, small)

    pub mark_agrees : found ≡ subframe % 8 → (0 ≡ mark_in f subframe) × (0 < 2)
    unfolding mark_in
    mark_agrees e = (rw (ne_eqb _ _ any, eq-eqb _ _ (sym e ∙ looked)), omega arith)

    pub mark_differs : (found ≡ subframe % 8 → ⊥) → (1 ≡ mark_in f subframe) × (1 < 2)
    unfolding mark_in
    mark_differs e = (rw (ne_eqb _ _ any, ne_eqb _ _ (λ g. e (looked ∙ sym g))), omega arith)

pub mark_lt : (f : Format) (subframe : ℕ) → mark_in f subframe < 2
unfolding mark_in
mark_lt f subframe =
    split (eqb f.overhead_bits 0) (λ e. rw e (omega arith))
    (λ e.
    split (eqb (subframe % 8) (guard_in f (sample_in f subframe) (ancillary_in f subframe))) (λ g. rw (e, g) (omega arith))
    (λ g. rw (e, g) (omega arith)))
