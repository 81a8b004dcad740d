-- The words of the theorems on frames there and back: what two frames have in common.
-- Assumes nothing.
use Rattle.std.specs.Prelude.{List, ◌≡◌, ℕ, ◌^◌, ◌≤◌, ◌<◌, length}
use Rattle.cable.specs.Slots.{time_slot}
use Rattle.cable.specs.Frames.{Exported, first, second}

-- two preambles, and two subframes of 32 slots
pub record Halves (preambles subframes : List ℕ) : Type 0 where
  pub two_preambles : length preambles ≡ 2
  pub two_subframes : length subframes ≡ 2
  pub first_word : first subframes < 2 ^ 32
  pub second_word : second subframes < 2 ^ 32

-- "the same slots 4 to 31"; slots 0 to 3 "leave as 0"
pub record SameSlots (came goes : ℕ) : Type 0 where
  pub the_same : (k : ℕ) → 4 ≤ k → k < 32 → time_slot goes k ≡ time_slot came k
  pub left_0 : (k : ℕ) → k < 4 → time_slot goes k ≡ 0

-- "Export of an imported frame gives the same slots 4 to 31 and the same preambles"
pub record SameFrame (preambles subframes : List ℕ) (goes : Exported) : Type 0 where
  pub taken : goes.refusal ≡ 0
  pub the_preambles : goes.preambles ≡ preambles
  pub first_slots : SameSlots (first subframes) (first goes.subframes)
  pub second_slots : SameSlots (second subframes) (second goes.subframes)
