-- Long division of polynomials modulo 2. A number stands for a polynomial, its bit k being the coefficient of x^k.
-- Assumes nothing.
use Rattle.std.specs.Prelude.{cond, List, [], ◌∷◌, ◌≡◌, ℕ, zero, suc, ◌+◌, ◌*◌, ◌/◌, ◌%◌, ◌^◌, ◌<◌, ltb}
use Rattle.std.specs.Int.Bits.{bit_xor}

-- one step: the next lower coefficient is taken down to the rest, and the divisor, of the given degree, is taken off where it goes
unfoldable pub taken_down : ℕ → ℕ → ℕ → ℕ → ℕ
taken_down degree divisor rest coefficient =
    cond (ltb (rest * 2 + coefficient) (2 ^ degree)) (rest * 2 + coefficient) (bit_xor (rest * 2 + coefficient) divisor)

-- the remainder of the polynomial with these coefficients, the highest first, after those that left the rest
unfoldable pub divided : ℕ → ℕ → ℕ → List ℕ → ℕ
divided degree divisor rest [] = rest
divided degree divisor rest (b ∷ bs) = divided degree divisor (taken_down degree divisor rest b) bs

-- the coefficients of a polynomial below x^n, the highest first
unfoldable pub coefficients : ℕ → ℕ → List ℕ
coefficients zero p = []
coefficients (suc n) p = p / 2 ^ n % 2 ∷ coefficients n p

-- the remainder of a polynomial below x^n by the divisor
abbrev pub remainder : ℕ → ℕ → ℕ → ℕ → ℕ
remainder degree divisor n p = divided degree divisor 0 (coefficients n p)

-- the product of the polynomial with these coefficients, the highest first, and a factor, after those that made the product so far
unfoldable pub multiplied : ℕ → ℕ → List ℕ → ℕ
multiplied factor product [] = product
multiplied factor product (b ∷ bs) = multiplied factor (bit_xor (product * 2) (b % 2 * factor)) bs

-- what makes r the remainder of p: some multiple of the divisor and r add up to p, and r is below the divisor's degree. That `remainder`
-- gives it is proved (runs/proofs/Division)
pub record IsRemainder (degree divisor p r : ℕ) : Type 0 where
  pub quotient : List ℕ
  pub adds_up : p ≡ bit_xor (multiplied divisor 0 quotient) r
  pub below : r < 2 ^ degree
