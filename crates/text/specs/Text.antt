-- Numbers in decimal.
-- Assumes nothing.
use Rattle.std.specs.Prelude.{cond, List, [], ◌∷◌, ◌++◌, ℕ, zero, suc, ◌+◌, ◌/◌, ◌%◌, ltb}

-- a number in at most so many decimal digits, which are the octets from 48 on
unfoldable pub digits_of : ℕ → ℕ → List ℕ
digits_of zero n = []
digits_of (suc digits) n = cond (ltb n 10) ((48 + n) ∷ []) (digits_of digits (n / 10) ++ ((48 + n % 10) ∷ []))

-- a number below 2^64 in decimal
abbrev pub decimal : ℕ → List ℕ
decimal n = digits_of 20 n

-- words, and a number behind them
abbrev pub item : List ℕ → ℕ → List ℕ
item words n = words ++ decimal n
