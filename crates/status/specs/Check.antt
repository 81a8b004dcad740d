-- The check character of a block of channel status: Appendix 2 of source document 002.
-- Assumes nothing.
use Rattle.std.specs.Prelude.{cond, List, ℕ, ◌+◌, ◌*◌, ◌/◌, ◌%◌, ltb}
use Rattle.runs.specs.Division.{divided}
use Rattle.runs.specs.Runs.{tab}
use Rattle.status.specs.Bits.{bit_of}

-- "the generating polynomial": x^8 + x^4 + x^3 + x^2 + 1, its bit k being the coefficient of x^k
abbrev pub generator : ℕ
generator = 0b1_0001_1101

-- What is divided, the highest coefficient first: x^8 times the bits of octets 0 to 22, bit 0 first. "The initial condition of
-- all the stages is logic 1": a one is added, modulo 2, to each of the first eight.
unfoldable pub coefficient_of : List ℕ → ℕ → ℕ
coefficient_of octets k = cond (ltb k 8) ((bit_of octets k + 1) % 2) (cond (ltb k 184) (bit_of octets k) 0)

-- a polynomial below x^8 as an octet, the coefficient of x^7 being the lowest bit
abbrev pub turned_of : ℕ → ℕ
turned_of p =
    p / 128 % 2 + p / 64 % 2 * 2 + p / 32 % 2 * 4 + p / 16 % 2 * 8
    + (p / 8 % 2 * 16 + p / 4 % 2 * 32 + p / 2 % 2 * 64 + p % 2 * 128)

-- octet 23 as octets 0 to 22 ask it: the remainder of the division, its highest coefficient being bit 184 of the block
unfoldable pub check_character : List ℕ → ℕ
check_character octets = turned_of (divided 8 generator 0 (tab (coefficient_of octets) 192))
