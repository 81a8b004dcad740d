-- Words of the code: eight entries that are taken at once, an octet of a block, and eight coefficients of what is divided.
-- Assumes nothing.
use Rattle.std.specs.Prelude.{Bool, cond, List, ◌≡◌, ℕ, zero, suc, ◌+◌, ◌-◌, ◌*◌, ◌/◌, ◌%◌, ◌^◌, ◌≤◌, ◌<◌, eqb, ltb, length, get_or, set}
use Rattle.runs.specs.Division.{divided}
use Rattle.runs.specs.Runs.{tab}
use Rattle.status.specs.Bits.{zeros}
use Rattle.status.specs.Check.{generator}
use Rattle.status.specs.Step.{c_of}
use Rattle.status.specs.declared.step.Block.{Block}

-- the C bits of the first n ancillary numbers, that of the first one lowest
unfoldable pub low_bits : (ℕ → ℕ) → ℕ → ℕ
low_bits f zero = 0
low_bits f (suc n) = low_bits f n + c_of (f n) * 2 ^ n

-- entry j from a place on
abbrev pub entry : List ℕ → ℕ → ℕ → ℕ → ℕ
entry run at step j = get_or run (at + j * step) 0

-- the first n of them are sound or doubtful, and add a bit alone, but the first may begin a block
pub record Adding (ancillary marks : List ℕ) (at step n : ℕ) : Type 0 where
  pub first : entry ancillary at step 0 ≤ 15
  pub plain : (j : ℕ) → 0 < j → j < n → entry ancillary at step j ≤ 7
  pub sound : (j : ℕ) → j < n → entry marks at step j ≤ 1

-- eight such entries, and their octet
pub record Eight (ancillary marks : List ℕ) (at step octet : ℕ) : Type 0 where
  pub adding : Adding ancillary marks at step 8
  pub is : octet ≡ low_bits (entry ancillary at step) 8

-- eight entries that are there and that a block of so many bits takes at once: they begin a block, or no block has begun, or they
-- fill an octet of it
pub record Eights (bits : ℕ) (ancillary marks : List ℕ) (at step span octet : ℕ) : Type 0 where
  pub eight : Eight ancillary marks at step octet
  pub spans : span ≡ 7 * step
  pub there : at + 7 * step < length ancillary
  pub within : bits ≤ 191
  pub whole : entry ancillary at step 0 ≤ 7 → bits % 8 ≡ 0

-- a block past them. With 192 bits it is finished
unfoldable pub with_eight : Block → Bool → ℕ → Block
with_eight block begins octet =
    cond begins
    (record { bits = 8; octets = set zeros 0 octet })
    (cond (eqb block.bits 0) block (record { bits = block.bits + 8; octets = set block.octets (block.bits / 8) octet }))

-- the octet whose bits are the eight coefficients from place 8k on of what is divided, by octet k of the block
unfoldable pub divided_octet : ℕ → ℕ → ℕ
divided_octet octet k = cond (eqb k 0) (255 - octet) (cond (ltb k 23) octet 0)

-- the rest after eight steps of the division, by the bits of an octet, the lowest first
unfoldable pub octet_down : ℕ → ℕ → ℕ
octet_down rest octet = divided 8 generator rest (tab (λ j. octet / 2 ^ j % 2) 8)
