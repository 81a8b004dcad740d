-- A block of channel status as 25 octets, and what a step on them leaves, as include/rimesatchel.h has it.
-- Assumes nothing.
use Rattle.std.specs.Prelude.{List, ◌∷◌, ◌≡◌, ℕ, get_or, drop}
use Rattle.status.specs.Run.{Ran, ran_of}
use Rattle.status.specs.Step.{Handed, Stepped, step_of}
use Rattle.status.specs.declared.step.Block.{Block}

-- "bits begun, then the 24 octets under assembly"
abbrev pub block_of : List ℕ → Block
block_of octets = record { bits = get_or octets 0 0; octets = drop 1 octets }

-- "`out`: 0 neither, 1 doesn't fit, 2 fits, 3 none carried, then the 24 octets handed out"
abbrev pub handed_octets : Handed → List ℕ
handed_octets handed = handed.answer ∷ handed.octets

abbrev pub stepped_of : List ℕ → ℕ → ℕ → Stepped
stepped_of block ancillary mark = step_of (block_of block) ancillary mark

-- the refusal, the block as it is left, and `out`: "0 neither, 1 doesn't fit, 2 fits, 3 none carried", then the 24 octets handed out
pub record SteppedOctets (block : List ℕ) (ancillary mark refusal : ℕ) (left out : List ℕ) : Type 0 where
  pub refused : refusal ≡ (stepped_of block ancillary mark).handed.refusal
  pub leaves : left ≡ (stepped_of block ancillary mark).block.bits ∷ (stepped_of block ancillary mark).block.octets
  pub hands : out ≡ (stepped_of block ancillary mark).handed.answer ∷ (stepped_of block ancillary mark).handed.octets

abbrev pub ran_with : List ℕ → List ℕ → List ℕ → ℕ → ℕ → Ran
ran_with block ancillary marks from step = ran_of (block_of block) ancillary marks from step

-- the same of many steps in one call, and the entry after the last one used
pub record RanOctets (block ancillary marks : List ℕ) (from step refusal : ℕ) (left out : List ℕ) (next : ℕ) : Type 0 where
  pub refused : refusal ≡ (ran_with block ancillary marks from step).stepped.handed.refusal
  pub leaves : left ≡ (ran_with block ancillary marks from step).stepped.block.bits ∷ (ran_with block ancillary marks from step).stepped.block.octets
  pub hands : out ≡ (ran_with block ancillary marks from step).stepped.handed.answer ∷ (ran_with block ancillary marks from step).stepped.handed.octets
  pub goes_on : next ≡ (ran_with block ancillary marks from step).next
