-- Words of the code, which document 01 doesn't have: the entries of a cell slot by slot, and which bits of its octets are a sample's.
-- Assumes nothing.
use Rattle.std.specs.Prelude.{Bool, cond, List, ◌≡◌, ℕ, zero, suc, ◌+◌, ◌-◌, ◌*◌, ◌%◌, ◌^◌, ◌<◌, eqb, get_or}
use Rattle.std.specs.Int.Bits.{bit_and}
use Rattle.formats.specs.declared.Format.{Format}
use Rattle.formats.specs.Formats.{format_of}
use Rattle.cells.specs.Cells.{subframe_at, sample_in, mark_in}
use Rattle.glance.specs.declared.Masks.{Masks}
use Rattle.glance.specs.Glance.{is_sound}

-- the sample of a slot is marked 0 and isn't zero
unfoldable pub sound_in : Format → List ℕ → ℕ → Bool
sound_in f cell slot = is_sound (sample_in f (subframe_at f cell slot)) (mark_in f (subframe_at f cell slot))

-- how many low bits of a cell's octet are no sample's: the ancillary bits and the overhead, in the last octet of a subframe
unfoldable pub low_at : Format → ℕ → ℕ
low_at f i = cond (eqb (i % f.width) (f.width - 1)) (f.ancillary_bits + f.overhead_bits) 0

-- the other bits of the octet
abbrev pub bits_at : Format → ℕ → ℕ
bits_at f i = 256 - 2 ^ low_at f i

-- n octets as one number, the first as the lowest
unfoldable pub packed : (ℕ → ℕ) → ℕ → ℕ
packed octet zero = 0
packed octet (suc n) = octet n * 2 ^ (8 * n) + packed octet n

-- a number that packs the first n octets from a place on
pub record Eight (cell : List ℕ) (at n number : ℕ) : Type 0 where
  pub is : number ≡ packed (λ i. get_or cell (at + i) 0) n
  pub octets : (i : ℕ) → i < n → get_or cell (at + i) 0 < 256

-- a word of eight octets that has no bit of a mask
pub record Blank (cell : List ℕ) (at mask : ℕ) : Type 0 where
  pub word : ℕ
  pub reads : Eight cell at 8 word
  pub none : bit_and word mask ≡ 0

-- the bits of half a cell that are a sample's
abbrev pub word_from : ℕ → Format → ℕ
word_from at f = packed (λ i. bits_at f (at + i)) 8

unfoldable pub masks_of : ℕ → Masks
masks_of octet =
    record {
      first = word_from 0 (format_of octet);
      second = word_from 8 (format_of octet);
      third = word_from 16 (format_of octet);
    }

-- an octet that has no bit above the low ones
pub record Under (octet low : ℕ) : Type 0 where
  pub fits : octet < 256
  pub none : bit_and octet (256 - 2 ^ low) ≡ 0

-- no octet of a half of the cell has a bit that is a sample's, and none of the other
abbrev pub ClearFrom : ℕ → Format → List ℕ → Type 0
ClearFrom start f cell = (i : ℕ) → i < 24 → Under (get_or cell (start + i) 0) (low_at f i)

pub record Clear (f : Format) (cell : List ℕ) : Type 0 where
  pub before : ClearFrom 0 f cell
  pub behind : ClearFrom 24 f cell
