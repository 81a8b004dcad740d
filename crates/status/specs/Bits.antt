-- The bits of a block of 24 octets. Document 01, "Channel status": "Bit k goes to octet k/8, bit k mod 8, bit 0 being the
-- lowest; the other bits stay."
-- Assumes nothing.
use Rattle.std.specs.Prelude.{List, ℕ, ◌+◌, ◌-◌, ◌*◌, ◌/◌, ◌%◌, ◌^◌, get_or, set, replicate}

-- bit k
unfoldable pub bit_of : List ℕ → ℕ → ℕ
bit_of octets k = get_or octets (k / 8) 0 / 2 ^ (k % 8) % 2

-- an octet with bit j made c: the bit's worth is taken out and put in anew
unfoldable pub octet_with : ℕ → ℕ → ℕ → ℕ
octet_with octet j c = octet - octet / 2 ^ j % 2 * 2 ^ j + c * 2 ^ j

-- the octets with bit k made c
unfoldable pub with_bit : List ℕ → ℕ → ℕ → List ℕ
with_bit octets k c = set octets (k / 8) (octet_with (get_or octets (k / 8) 0) (k % 8) c)

-- 24 zeros
abbrev pub zeros : List ℕ
zeros = replicate 24 0
