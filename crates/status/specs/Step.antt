-- One step of channel status: document 01, "Channel status", sentence after sentence.
-- Assumes nothing.
use Rattle.std.specs.Prelude.{Bool, cond, ◌||◌, List, ℕ, ◌+◌, ◌/◌, ◌%◌, ltb, eqb, get_or}
use Rattle.status.specs.Bits.{bit_of, with_bit, zeros}
use Rattle.status.specs.Check.{check_character}
use Rattle.status.specs.declared.step.Block.{Block}

-- what goes out: the refusal, 0 where nothing is refused, and the 24 octets of a finished block with their answer
pub record Handed : Type 0 where
  pub refusal : ℕ
  pub answer : ℕ
  pub octets : List ℕ

-- the block brought forward, and what goes out
pub record Stepped : Type 0 where
  pub block : Block
  pub handed : Handed

-- B and C of an ancillary number: "B worth 8 and V worth 1"
abbrev pub b_of : ℕ → ℕ
b_of ancillary = ancillary / 8

abbrev pub c_of : ℕ → ℕ
c_of ancillary = ancillary / 4 % 2

-- "a block of no bits and zero octets"
abbrev pub no_block : Block
no_block = record { bits = 0; octets = zeros }

-- "unless one is finished, 24 zeros go out with neither yes nor no"
abbrev pub unfinished : ℕ → Block → Stepped
unfinished refusal block = record { block = block; handed = record { refusal = refusal; answer = 0; octets = zeros } }

-- "one of three: fits, doesn't fit, none carried. The third is given exactly where that bit is 0", "bit 0 of octet 0" (document 02,
-- request 6): 3 is none carried, 2 fits, 1 doesn't fit (and 0 neither)
unfoldable pub fit_of : List ℕ → ℕ
fit_of octets = cond (eqb (bit_of octets 0) 0) 3 (cond (eqb (get_or octets 23 0) (check_character octets)) 2 1)

-- "the block of 24 octets is handed out by value"; "finishing leaves a block of no bits and zero octets"
abbrev pub finished : List ℕ → Stepped
finished octets = record { block = no_block; handed = record { refusal = 0; answer = fit_of octets; octets = octets } }

-- "A mark above 2, an ancillary above 15, or a lent block with more than 191 bits begun is refused"
unfoldable pub is_refused : ℕ → ℕ → ℕ → Bool
is_refused bits ancillary mark = ltb 2 mark || (ltb 15 ancillary || ltb 191 bits)

-- "B = 0 adds a bit to a begun block"; "After 192 bits the block of 24 octets is handed out"
unfoldable pub added_to : ℕ → List ℕ → Stepped
added_to bits octets = cond (ltb bits 191) (unfinished 0 (record { bits = bits + 1; octets = octets })) (finished octets)

-- refused, the block is as it was lent; "Mark 2 drops the block and B isn't looked at; marks 0 and 1 count alike"; "B = 1 begins
-- a block with that C bit as bit 0 and zeros after it, dropping an unfinished one"; "B = 0 adds a bit to a begun block, else
-- does nothing"
unfoldable pub step_of : Block → ℕ → ℕ → Stepped
step_of block ancillary mark =
    cond (is_refused block.bits ancillary mark) (unfinished 14 block)
    (cond (eqb mark 2) (unfinished 0 no_block)
    (cond (eqb (b_of ancillary) 1) (unfinished 0 (record { bits = 1; octets = with_bit zeros 0 (c_of ancillary) }))
    (cond (eqb block.bits 0) (unfinished 0 block)
    (added_to block.bits (with_bit block.octets block.bits (c_of ancillary))))))
