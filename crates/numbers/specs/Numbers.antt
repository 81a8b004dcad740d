-- The sequencing word, document 01. A list of bits is told as a function of the bit's place, counted from 0.
-- Assumes nothing.
use Rattle.std.specs.Prelude.{◌≡◌, ℕ, zero, suc, ◌+◌, ◌-◌, ◌*◌, ◌/◌, ◌%◌, ◌^◌, Bool, cond, not, ◌&&◌, List, [], ◌∷◌, ◌==◌, count_ones, nat_lt, slice_index, Option, Some, None}
use Rattle.runs.specs.Division.{remainder}

-- "Table A.1, for numbers 0 to 15 in hex": the first bit sent is the top one
unfoldable pub table_a1 : List ℕ
table_a1 =
    0x0F ∷ 0x84 ∷ 0x41 ∷ 0xCA ∷ 0x22 ∷ 0xA9 ∷ 0x6C ∷ 0xE7 ∷ 0x18 ∷ 0x93 ∷ 0x56 ∷ 0xDD ∷ 0x35 ∷ 0xBE ∷ 0x7B ∷ 0xF0 ∷ []

abbrev pub entry_of : ℕ → ℕ
entry_of number = slice_index table_a1 number

-- four bits in the opposite order: "least significant first"
unfoldable pub turned : ℕ → ℕ
turned n = n % 2 * 8 + n / 2 % 2 * 4 + n / 4 % 2 * 2 + n / 8 % 2

-- "the complement of the remainder, modulo 2, by x^3 + x + 1, of x^3 times those four bits, the first bit sent being the
-- coefficient of x^3. Bit 5 is the x^2 term."
unfoldable pub protection_of : ℕ → ℕ
protection_of number = 7 - remainder 3 0b1011 7 (turned number * 8)

-- bits 1 to 7
unfoldable pub seven_of : ℕ → ℕ
seven_of number = turned number * 8 + protection_of number

-- "Bit 8 makes the count of ones in the eight even"
unfoldable pub divided_entry : ℕ → ℕ
divided_entry number = seven_of number * 2 + count_ones (seven_of number) % 2

-- the place of the first entry that equals w, and the list's length where none does
unfoldable pub place_in : ℕ → List ℕ → ℕ
place_in w [] = 0
place_in w (x ∷ xs) = cond (x == w) 0 (suc (place_in w xs))

-- "A receiver accepts a number only if all eight bits equal a table entry": the number, and 16 where there is none
abbrev pub number_in : ℕ → ℕ
number_in word = place_in word table_a1

unfoldable pub found_of : ℕ → Option ℕ
found_of word = cond (nat_lt (number_in word) 16) (Some (number_in word)) None

-- what is found as the paper has it: the refusal, 8 "the eight number bits aren't in the table", and the number, 0 where there is none
unfoldable pub refusal_of : Option ℕ → ℕ
refusal_of (Some n) = 0
refusal_of None = 8

unfoldable pub value_of : Option ℕ → ℕ
value_of (Some n) = n
value_of None = 0

-- and that it is this, of eight bits
pub record Finds (word : ℕ) (found : Option ℕ) : Type 0 where
  pub refused : refusal_of found ≡ cond (nat_lt (number_in word) 16) 0 8
  pub number : value_of found ≡ cond (nat_lt (number_in word) 16) (number_in word) 0

-- the sequencing bit of a slot: the eight number bits, then "Bits 9 to 12: the second number, least significant first", and
-- "Later bits are sent as zero"
unfoldable pub word_bit : ℕ → ℕ → ℕ → ℕ
word_bit word second slot =
    cond (nat_lt slot 8) (word / 2 ^ (7 - slot) % 2) (cond (nat_lt slot 12) (second / 2 ^ (slot - 8) % 2) 0)

-- the number that the first n of some bits make, the first one the highest
unfoldable pub gathered : (ℕ → ℕ) → ℕ → ℕ
gathered bit zero = 0
gathered bit (suc n) = gathered bit n * 2 + bit n

-- the first eight of received sequencing bits, and the second number in bits 9 to 12
abbrev pub eight_of : (ℕ → ℕ) → ℕ
eight_of bit = gathered bit 8

abbrev pub second_of : (ℕ → ℕ) → ℕ
second_of bit = bit 8 + bit 9 * 2 + bit 10 * 4 + bit 11 * 8

-- "d is the difference of numbers modulo 16"
unfoldable pub difference_of : ℕ → ℕ → ℕ
difference_of number last = (number + (16 - last % 16)) % 16

-- "The user indication may be 1 only where the number is a multiple of 8": whether it is 1 elsewhere
unfoldable pub indication_refused : ℕ → Bool → Bool
indication_refused number indication = indication && not (number % 8 == 0)
