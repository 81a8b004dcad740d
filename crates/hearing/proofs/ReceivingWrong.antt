-- Wrong answers of receiving a log: the contract rules them out. Stated over the contract itself.
-- Assumes nothing.
use mathlib.Core.Bool.{true}
use mathlib.Core.List.{List, [], ◌∷◌, ◌++◌}
use mathlib.Core.Path.{◌≡◌, ap}
use Prim.Native.Nat.{ℕ}
use native.Mathlib.Omega.{arith}
use contract.Lifetimes.{Lfts}
use lib.ListN.{get_or, replicate}
use Rattle.runs.proofs.Wrong.{Never, Place, lent, lent_mut}
use Rattle.receiver.specs.declared.Receiver.{Receiver}
use Rattle.reading.specs.Heard.{end_by}
use Rattle.hearing.specs.declared.receiving.Batch.{Batch}
use Rattle.hearing.specs.Receiving.{fitting, call_refusal}
use Rattle.hearing.proofs.Wrong as judging
use Rattle.hearing.proofs.receiving.receive.Kinds as receive-kinds
use Rattle.hearing.proofs.receiving.receive.Reads as receive-reads

-- every definition on the way down to the numbers
unfoldable pub unfolded : Unit {0}
unfolding judging.unfolded end_by fitting call_refusal
unfolded = tt

-- a receiver of 5A hex with one channel, eight entries a cell, whose last cell had number 0
abbrev going : Receiver
going = record { format = 0x5A; channels = 1; order = 0; started = true; last = 0; count = 1 }

-- a subframe of zeros with a sequencing bit
abbrev frame : ℕ → List ℕ
frame octet = 0 ∷ 0 ∷ 0 ∷ 0 ∷ 0 ∷ octet ∷ []

-- a record with number 2: one cell is missing before it
abbrev second : List ℕ
second = 0 ∷ frame 0 ++ frame 8 ++ frame 0 ++ frame 0 ++ frame 0 ++ frame 0 ++ frame 0 ++ frame 8

-- a record of zeros, whose number is in no table
abbrev spoiled : List ℕ
spoiled = replicate 49 0

module _ (κs : Lfts 4) (p q r s : Place) where
  -- so many entries of room, all of them nines
  abbrev Receiving : List ℕ → ℕ → ℕ → (Batch → List ℕ → List ℕ → Type 0) → Type 0
  Receiving log room marks Wrong =
      Never receive-kinds.ps receive-kinds.r receive-reads.Post κs
      (going, (lent p log, (0, (lent_mut q (replicate room 9), (lent_mut r (replicate room 9), (lent_mut s (replicate marks 9), tt))))))
      (λ x v. Wrong x v.1.1.1.0 v.1.1.1.1.1.0)

  -- a gap's entries left out: eight are counted
  pub gap_not_left_out : Receiving second 16 16 (λ x samples marks. x.entries ≡ 8)
  unfolding unfolded
  gap_not_left_out x v wrong j = let right : x.entries ≡ 16 = ap (λ (b : Batch). b.entries) j.answered in omega arith

  -- or they have another mark
  pub gap_not_sound : Receiving second 16 16 (λ x samples marks. get_or marks 7 0 ≡ 0)
  unfolding unfolded
  gap_not_sound x v wrong j =
      let right : get_or v.1.1.1.1.1.0 7 0 ≡ 2 = ap (λ (l : List ℕ). get_or l 7 0) j.marks_after in omega arith

  -- a refused record's entries written
  pub refused_not_written : Receiving spoiled 16 16 (λ x samples marks. get_or samples 0 0 ≡ 0)
  unfolding unfolded
  refused_not_written x v wrong j = let right : get_or v.1.1.1.0 0 0 ≡ 9 = ap (λ (l : List ℕ). get_or l 0 0) j.samples_after in omega arith

  -- the state of a record that didn't fit
  pub unfitting_not_in_state : Receiving second 15 15 (λ x samples marks. x.state.last ≡ 2)
  unfolding unfolded
  unfitting_not_in_state x v wrong j = let right : x.state.last ≡ 0 = ap (λ (b : Batch). b.state.last) j.answered in omega arith

  -- its room told as the end
  pub full_not_the_end : Receiving second 15 15 (λ x samples marks. x.stop ≡ 0)
  unfolding unfolded
  full_not_the_end x v wrong j = let right : x.stop ≡ 10 = ap (λ (b : Batch). b.stop) j.answered in omega arith

  -- the stop of a cut record told as the end
  pub cut_not_the_end : Receiving (0 ∷ 0 ∷ []) 16 16 (λ x samples marks. x.stop ≡ 0)
  unfolding unfolded
  cut_not_the_end x v wrong j = let right : x.stop ≡ 12 = ap (λ (b : Batch). b.stop) j.answered in omega arith

  -- runs of unequal length taken, since no record is there
  pub unequal_not_taken : Receiving [] 16 15 (λ x samples marks. x.refusal ≡ 0)
  unfolding unfolded
  unequal_not_taken x v wrong j = let right : x.refusal ≡ 5 = ap (λ (b : Batch). b.refusal) j.answered in omega arith
