-- The two examples of Appendix 2 of source document 002: what the definitions give, and what it prints.
-- Assumes nothing.
use Rattle.std.specs.Prelude.{List, [], ◌∷◌, ℕ, ◌/◌, ◌%◌, ◌^◌}
use Rattle.runs.specs.Runs.{tab}
use Rattle.status.specs.Bits.{with_bit, zeros}
use Rattle.status.specs.Check.{check_character}

-- "All other bits in channel status bytes 0 to 22 inclusive set at logic 0"
unfoldable pub with_bits : List ℕ → List ℕ
with_bits [] = zeros
with_bits (k ∷ ks) = with_bit (with_bits ks) k 1

-- "Content of CRCC (byte 23)", from channel status bit 184 to 191
abbrev pub character_bits : List ℕ → List ℕ
character_bits octets = tab (λ k. check_character octets / 2 ^ k % 2) 8

-- "Bits set to logic 1": byte 0 bits 0, 2, 3, 4 and 5, byte 1 bit 1, byte 4 bit 1; and byte 0 bit 0
unfoldable pub appendix_given : List (List ℕ)
appendix_given = character_bits (with_bits (0 ∷ 2 ∷ 3 ∷ 4 ∷ 5 ∷ 9 ∷ 33 ∷ [])) ∷ character_bits (with_bits (0 ∷ [])) ∷ []

-- 9B and 32 hex, lowest bit first
unfoldable pub appendix_printed : List (List ℕ)
appendix_printed = (1 ∷ 1 ∷ 0 ∷ 1 ∷ 1 ∷ 0 ∷ 0 ∷ 1 ∷ []) ∷ (0 ∷ 1 ∷ 0 ∷ 0 ∷ 1 ∷ 1 ∷ 0 ∷ 0 ∷ []) ∷ []
