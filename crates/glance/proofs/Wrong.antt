-- Wrong answers to the public function: the contract rules each of them out.
-- Assumes nothing.
use mathlib.Core.Bool.{Bool, true, false, true≢false}
use mathlib.Core.List.{List, [], ◌∷◌, ◌++◌}
use mathlib.Core.Path.{◌≡◌, sym, ◌∙◌}
use Prim.Native.Nat.{ℕ}
use contract.Lifetimes.{Lfts}
use lib.ListN.{replicate}
use Rattle.runs.proofs.Wrong.{Never, Place, lent}
use Rattle.receiver.specs.declared.Receiver.{Receiver}
use Rattle.receiver.specs.Receiver.{open_state}
use Rattle.receiver.proofs.Wrong as receiver
use Rattle.reading.proofs.Computed as reading
use Rattle.glance.specs.Glance.{is_sound, some, sound_at, readable, sounds_of}
use Rattle.glance.proofs.sounds.Kinds as sounds-kinds
use Rattle.glance.proofs.sounds.Reads as sounds-reads

-- every definition on the way down to the numbers
unfoldable pub unfolded : Unit {0}
unfolding receiver.unfolded reading.unfolded is_sound some sound_at readable sounds_of
unfolded = tt

-- 02 hex has eight bits in each of 48 slots and no overhead; with 40 channels its last eight slots are unused
abbrev plain : Receiver
plain = open_state 0x02 40 0

-- 52 hex has overhead: protection bits of zeros don't agree with a sample of 7
abbrev guarded : Receiver
guarded = open_state 0x52 1 0

module _ (κs : Lfts 1) (p : Place) where
  abbrev Sounds : Receiver → List ℕ → (Bool → Type 0) → Type 0
  Sounds st cell Wrong = Never sounds-kinds.ps sounds-kinds.r sounds-reads.Post κs (st, (lent p cell, tt)) (λ x v. Wrong x)

  -- an unused slot taken for sound
  pub unused_slot_isn't_sound : Sounds plain (replicate 47 0 ++ (7 ∷ [])) (λ x. x ≡ true)
  unfolding unfolded
  unused_slot_isn't_sound x v wrong is = true≢false (sym wrong ∙ is)

  -- sound passed over
  pub sound_is_told : Sounds plain (7 ∷ replicate 47 0) (λ x. x ≡ false)
  unfolding unfolded
  sound_is_told x v wrong is = true≢false (sym is ∙ wrong)

  -- a sample whose protection bits disagree taken for sound
  pub damaged_isn't_sound : Sounds guarded (7 ∷ replicate 47 0) (λ x. x ≡ true)
  unfolding unfolded
  damaged_isn't_sound x v wrong is = true≢false (sym wrong ∙ is)
