-- The mark of a subframe by its nine top sample bits and its five low bits.
-- Assumes nothing.
use Rattle.std.specs.Prelude.{cond, ◌≡◌, ℕ, ◌/◌, ◌%◌, ◌^◌, ◌<◌, eqb}
use Rattle.guards.specs.Guards.{VOrNone, no_v, v_in, protected_bits, ten_guard}

-- the mark of a subframe with these nine top sample bits, V or none, and these low bits, the last three being the protection bits
unfoldable pub mark_bit : ℕ → VOrNone → ℕ → ℕ
mark_bit nine v low = cond (eqb (low % 8) (ten_guard (protected_bits nine v))) 0 1

-- a number whose bits are the marks of all five low bits, where these say V or none
abbrev pub MarksBy : (ℕ → VOrNone) → ℕ → ℕ → Type 0
MarksBy v nine bits = (low : ℕ) → low < 32 → bits / 2 ^ low % 2 ≡ mark_bit nine (v low) low

-- the five low bits are V, the sequencing bit, three protection bits; or there is no V, and they begin with the sample's lowest bit
abbrev pub MarksOf : ℕ → ℕ → Type 0
MarksOf = MarksBy (λ low. v_in (low / 16))

abbrev pub MarksWithoutV : ℕ → ℕ → Type 0
MarksWithoutV = MarksBy (λ low. no_v)
