-- Subframe formats, document 01: what the subframe octet (6.2) says by the rules and by the table, T, and checks 1 to 3. That rules and
-- table agree is proved (formats/proofs/Agree).
-- Assumes nothing.
use Rattle.std.specs.Prelude.{Bool, false, cond, not, ◌&&◌, ◌||◌, List, [], ◌∷◌, ℕ, ◌+◌, ◌*◌, ◌/◌, ◌%◌, eqb, leb, ltb}
use Rattle.formats.specs.declared.Format.{Format}

-- "0 and 1 reserved, 2 to 8 mean four times the code, 9 reserved, 10 means 40, 11 to 15 reserved": 0 for what is reserved
unfoldable pub length_of : ℕ → ℕ
length_of code = cond (ltb code 2) 0 (cond (leb code 8) (4 * code) (cond (eqb code 10) 40 0))

-- "sample length in the low four"
unfoldable pub sample_bits : ℕ → ℕ
sample_bits octet = length_of (octet % 16)

-- "ancillary in its top two bits": "00 none, 01 four bits"
unfoldable pub ancillary_bits : ℕ → ℕ
ancillary_bits octet = octet / 64 * 4

-- "overhead in the next two": "00 none, 01 four bits"
unfoldable pub overhead_bits : ℕ → ℕ
overhead_bits octet = octet / 16 % 4 * 4

-- n is one of the numbers
unfoldable pub is_among : ℕ → List ℕ → Bool
is_among n [] = false
is_among n (x ∷ xs) = eqb x n || is_among n xs

-- "1x reserved", of the two bits that say ancillary or overhead
abbrev pub is_reserved : ℕ → Bool
is_reserved code = ltb 1 code

-- "The whole subframe must have 8, 16, 24, 32 or 48 bits."
abbrev pub wholes : List ℕ
wholes = 8 ∷ 16 ∷ 24 ∷ 32 ∷ 48 ∷ []

-- a number that is an octet, and valid by these rules
unfoldable pub is_valid : ℕ → Bool
is_valid octet =
    ltb octet 256
    && not (is_reserved (octet / 64))
    && not (is_reserved (octet / 16 % 4))
    && not (eqb (sample_bits octet) 0)
    && is_among (sample_bits octet + ancillary_bits octet + overhead_bits octet) wholes

-- the octets that a subframe fills
unfoldable pub width_of : ℕ → ℕ
width_of octet = (sample_bits octet + ancillary_bits octet + overhead_bits octet) / 8

-- S, the slots in a cell of 48 octets
unfoldable pub slots_of : ℕ → ℕ
slots_of octet = 48 / width_of octet

-- a row of the table
pub record FormatRow : Type 0 where
  pub octet : ℕ
  pub ancillary : ℕ
  pub overhead : ℕ
  pub sample : ℕ
  pub slots : ℕ

abbrev pub row : ℕ → ℕ → ℕ → ℕ → ℕ → FormatRow
row octet ancillary overhead sample slots =
    record { octet = octet; ancillary = ancillary; overhead = overhead; sample = sample; slots = slots }

-- "Base formats, with S the slots in a cell", and with request 4 "13, 15 and 17 hex must be taken at both ends", "S is 24, 16 and 12":
-- octet; ancillary, overhead and sample bits; S
abbrev pub listed_formats : List FormatRow
listed_formats =
    row 0x02 0 0 8 48 ∷ row 0x04 0 0 16 24 ∷ row 0x06 0 0 24 16 ∷ row 0x08 0 0 32 12
    ∷ row 0x13 0 4 12 24 ∷ row 0x15 0 4 20 16 ∷ row 0x17 0 4 28 12
    ∷ row 0x43 4 0 12 24 ∷ row 0x45 4 0 20 16 ∷ row 0x47 4 0 28 12
    ∷ row 0x52 4 4 8 24 ∷ row 0x54 4 4 16 16 ∷ row 0x56 4 4 24 12 ∷ row 0x5A 4 4 40 8
    ∷ []

abbrev pub octets_in : List FormatRow → List ℕ
octets_in [] = []
octets_in (r ∷ rs) = r.octet ∷ octets_in rs

-- the octets of the fourteen formats
unfoldable pub listed_octets : List ℕ
listed_octets = octets_in listed_formats

-- not refused 1, which "is now for an octet that is none of the fourteen"
unfoldable pub is_listed : ℕ → Bool
is_listed octet = is_among octet listed_octets

-- the format of an octet of the fourteen, and all zeros for any other
abbrev pub no_format : Format
no_format = record { sample_bits = 0; ancillary_bits = 0; overhead_bits = 0; width = 0; slots = 0 }

unfoldable pub format_of : ℕ → Format
format_of octet =
    cond (is_listed octet)
    (record {
      sample_bits = sample_bits octet;
      ancillary_bits = ancillary_bits octet;
      overhead_bits = overhead_bits octet;
      width = width_of octet;
      slots = slots_of octet;
    })
    no_format

-- "T is S divided by C, rounded down"
abbrev pub times_of : ℕ → ℕ → ℕ
times_of slots channels = slots / channels

-- checks 1 to 3, in that order: "an octet that is none of the fourteen", "C is 0 or above S", "order above 1"; 0 where none is given
unfoldable pub settings_refusal : ℕ → ℕ → ℕ → ℕ
settings_refusal octet channels order =
    cond (not (is_listed octet)) 1 (cond (eqb channels 0 || ltb (slots_of octet) channels) 2 (cond (ltb 1 order) 3 0))
