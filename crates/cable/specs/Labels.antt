-- The words of the theorem on labels: frames of a cable whose C bits are a block of channel status.
-- Assumes nothing.
use Rattle.std.specs.Prelude.{List, ◌≡◌, ℕ, ◌<◌, get_or}
use Rattle.status.specs.Bits.{bit_of}
use Rattle.cable.specs.Slots.{time_slot}
use Rattle.cable.specs.Frames.{first, preamble_z, import_of}

-- 192 frames that carry a block's 24 octets in one half (0 the first, 1 the second): none is refused, Z begins the first alone, and time
-- slot 30 of frame k is bit k
pub record Labelled (preambles subframes : ℕ → List ℕ) (half : ℕ) (octets : List ℕ) : Type 0 where
  pub sound : (k : ℕ) → k < 192 → (import_of (preambles k) (subframes k)).refusal ≡ 0
  pub begins : first (preambles 0) ≡ preamble_z
  pub goes_on : (k : ℕ) → 0 < k → k < 192 → first (preambles k) ≡ preamble_z → ⊥
  pub carries : (k : ℕ) → k < 192 → time_slot (get_or (subframes k) half 0) 30 ≡ bit_of octets k

-- the ancillary number that frame k brings in that half
abbrev pub ancillary_at : (ℕ → List ℕ) → (ℕ → List ℕ) → ℕ → ℕ → ℕ
ancillary_at preambles subframes half k = get_or (import_of (preambles k) (subframes k)).ancillary half 0
