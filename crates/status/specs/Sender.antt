-- What a run of steps hands out, and what a sender of one block of channel status sends: the words of the theorem in
-- proofs/Sent.antt.
-- Assumes nothing.
use Rattle.std.specs.Prelude.{cond, List, [], ◌∷◌, ◌++◌, ◌≡◌, ℕ, zero, suc, ◌≤◌, ◌<◌, eqb, length, get_or}
use Rattle.status.specs.Bits.{bit_of}
use Rattle.status.specs.Step.{Stepped, step_of, b_of, c_of}
use Rattle.status.specs.declared.step.Block.{Block}

-- the block under assembly after the first n steps, step k being given the ancillary number and the mark at k
unfoldable pub block_after : Block → (ℕ → ℕ) → (ℕ → ℕ) → ℕ → Block
block_after block ancillary mark zero = block
block_after block ancillary mark (suc n) = (step_of (block_after block ancillary mark n) (ancillary n) (mark n)).block

-- what a step hands out: a block's octets with their answer, or nothing
unfoldable pub brought_by : Stepped → List (ℕ × List ℕ)
brought_by s = cond (eqb s.handed.answer 0) [] ((s.handed.answer, s.handed.octets) ∷ [])

-- what the first n steps hand out, in order
unfoldable pub brought_out : Block → (ℕ → ℕ) → (ℕ → ℕ) → ℕ → List (ℕ × List ℕ)
brought_out block ancillary mark zero = []
brought_out block ancillary mark (suc n) =
    brought_out block ancillary mark n ++ brought_by (step_of (block_after block ancillary mark n) (ancillary n) (mark n))

-- 24 octets
pub record Octets (octets : List ℕ) : Type 0 where
  pub many : length octets ≡ 24
  pub small : (i : ℕ) → get_or octets i 0 < 256

-- a sender's 192 ancillary numbers: their C bits are those of the octets, and B is set on the first alone
pub record SendsBlock (octets : List ℕ) (ancillary : ℕ → ℕ) : Type 0 where
  pub within : (k : ℕ) → k < 192 → ancillary k ≤ 15
  pub first : b_of (ancillary 0) ≡ 1
  pub alone : (k : ℕ) → 0 < k → k < 192 → b_of (ancillary k) ≡ 0
  pub carries : (k : ℕ) → k < 192 → c_of (ancillary k) ≡ bit_of octets k
