-- Each kind of step, by what was given to it.
-- Assumes nothing.
use mathlib.Core.Bool.{true, false, ◌||◌}
use mathlib.Core.List.{List}
use mathlib.Core.Path.{◌≡◌}
use Prim.Native.Nat.{ℕ, ◌+◌, ◌≤◌, ◌<◌}
use borrow.Author.Tests.{eq-eqb, ne_eqb, lt-ltb, le-ltb, ltb-false}
use lib.Dec.{ltb}
use Rattle.status.specs.Bits.{with_bit, zeros}
use Rattle.status.specs.Step.{step_of, is_refused, unfinished, no_block, finished, added_to, b_of, c_of}
use Rattle.status.specs.declared.step.Block.{Block}
use Rattle.runs.proofs.Laws.{neither}

module _ (block : Block) (a m : ℕ) where
  pub step_refused : is_refused block.bits a m ≡ true → step_of block a m ≡ unfinished 14 block
  unfolding step_of
  step_refused r = rw r

  module _ (taken : is_refused block.bits a m ≡ false) where
    pub step_dropped : m ≡ 2 → step_of block a m ≡ unfinished 0 no_block
    unfolding step_of
    step_dropped e = rw (taken, eq-eqb m 2 e)

    module _ (sound : m ≡ 2 → ⊥) where
      pub step_begun : b_of a ≡ 1 → step_of block a m ≡ unfinished 0 (record { bits = 1; octets = with_bit zeros 0 (c_of a) })
      unfolding step_of
      step_begun e = rw (taken, ne_eqb m 2 sound, eq-eqb (b_of a) 1 e)

      module _ (b0 : b_of a ≡ 1 → ⊥) where
        pub step_idle : block.bits ≡ 0 → step_of block a m ≡ unfinished 0 block
        unfolding step_of
        step_idle e = rw (taken, ne_eqb m 2 sound, ne_eqb (b_of a) 1 b0, eq-eqb block.bits 0 e)

        pub step_added : (block.bits ≡ 0 → ⊥) → step_of block a m ≡ added_to block.bits (with_bit block.octets block.bits (c_of a))
        unfolding step_of
        step_added e = rw (taken, ne_eqb m 2 sound, ne_eqb (b_of a) 1 b0, ne_eqb block.bits 0 e)

pub added_more : (bits : ℕ) (octets : List ℕ) → bits < 191 → added_to bits octets ≡ unfinished 0 (record { bits = bits + 1; octets = octets })
unfolding added_to
added_more bits octets h = rw (lt-ltb bits 191 h)

pub added_last : (bits : ℕ) (octets : List ℕ) → 191 ≤ bits → added_to bits octets ≡ finished octets
unfolding added_to
added_last bits octets h = rw (le-ltb bits 191 h)

-- what is within bounds isn't refused
pub within_taken : (bits a m : ℕ) → bits ≤ 191 → a ≤ 15 → m ≤ 2 → is_refused bits a m ≡ false
unfolding is_refused
within_taken bits a m b≤ a≤ m≤ = rw (le-ltb 2 m m≤, le-ltb 15 a a≤, le-ltb 191 bits b≤)

pub taken_bits : (bits a m : ℕ) → is_refused bits a m ≡ false → bits ≤ 191
unfolding is_refused
taken_bits bits a m e = ltb-false 191 bits (neither (ltb 15 a) (ltb 191 bits) (neither (ltb 2 m) (ltb 15 a || ltb 191 bits) e).1).1
