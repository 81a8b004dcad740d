-- Wrong answers of sending many cells: the contract rules them out. Stated over the contract itself.
-- Assumes nothing.
use Rattle.std.proofs.Common.{◌≡◌, ℕ, Bool, true, false, List, ◌++◌, get_or, replicate, ap, arith}
use mathlib.Core.List.{flat_map}
use contract.Lifetimes.{Lfts}
use Rattle.runs.proofs.Wrong.{Never, Place, lent, lent_mut}
use Rattle.sender.specs.declared.Sender.{Sender}
use Rattle.sender.specs.declared.many.Batch.{Batch}
use Rattle.sender.specs.Many.{sent_from, state_behind, stop_after, batch_refusal}
use Rattle.sender.proofs.Wrong as wrong
use Rattle.sender.proofs.many.send.Kinds as many-kinds
use Rattle.sender.proofs.many.send.Reads as many-reads

-- every definition on the way down to the numbers
unfoldable pub unfolded : Unit {0}
unfolding wrong.unfolded flat_map sent_from state_behind stop_after batch_refusal
unfolded = tt

-- a sender of one channel in 5A hex, eight samples of forty bits in a cell, its next cell to have this number
abbrev studio : ℕ → Sender
studio number = record { format = 0x5A; channels = 1; order = 0; number = number; wanted = false; second = 0; sent = true }

module _ (κs : Lfts 3) (s a l : Place) where
  -- a call with so many samples, each of this value, and a log of nines that has so many octets, from its start on
  abbrev Sending : ℕ → Bool → List ℕ → ℕ → (Batch → List ℕ → Type 0) → Type 0
  Sending number indications samples octets Wrong =
      Never many-kinds.ps many-kinds.r many-reads.Post κs
      (studio number, (indications, (lent s samples, (lent a (replicate 16 0), (lent_mut l (replicate octets 9), (0, tt))))))
      (λ x v. Wrong x v.1.1.1.1.0)

  -- a cell written half: the log has room for one record and half of another
  pub half_not_written : Sending 1 true (replicate 16 1) 73 (λ x log. get_or log 49 0 ≡ 0)
  unfolding unfolded
  half_not_written x v wrong p =
      let right : get_or v.1.1.1.1.0 49 0 ≡ 9 = ap (λ (m : List ℕ). get_or m 49 0) p.log_after_lem in omega arith

  -- the state of a cell that didn't fit
  pub state_not_of_two : Sending 1 true (replicate 16 1) 73 (λ x log. x.state.number ≡ 3)
  unfolding unfolded
  state_not_of_two x v wrong p = let right : x.state.number ≡ 2 = ap (λ (r : Batch). r.state.number) p.answered in omega arith

  -- no room told as the end of the entries
  pub full_not_the_end : Sending 1 true (replicate 16 1) 73 (λ x log. x.stop ≡ 0)
  unfolding unfolded
  full_not_the_end x v wrong p = let right : x.stop ≡ 12 = ap (λ (r : Batch). r.stop) p.answered in omega arith

  -- the indication in the cell before the one whose number is a multiple of 8
  pub not_in_the_cell_before : Sending 7 true (replicate 16 1) 98 (λ x log. get_or log 0 0 ≡ 1)
  unfolding unfolded
  not_in_the_cell_before x v wrong p =
      let right : get_or v.1.1.1.1.0 0 0 ≡ 0 = ap (λ (m : List ℕ). get_or m 0 0) p.log_after_lem in omega arith

  -- an indication where there are to be none
  pub none_where_none : Sending 8 false (replicate 16 1) 98 (λ x log. get_or log 0 0 ≡ 1)
  unfolding unfolded
  none_where_none x v wrong p =
      let right : get_or v.1.1.1.1.0 0 0 ≡ 0 = ap (λ (m : List ℕ). get_or m 0 0) p.log_after_lem in omega arith

  -- a number too large told where no record fits any more: 12 comes before 6
  pub room_before_values : Sending 1 true (replicate 8 1 ++ replicate 8 1099511627776) 49 (λ x log. x.stop ≡ 6)
  unfolding unfolded
  room_before_values x v wrong p = let right : x.stop ≡ 12 = ap (λ (r : Batch). r.stop) p.answered in omega arith

  -- a cell with a number too large sent
  pub large_not_sent : Sending 1 true (replicate 8 1 ++ replicate 8 1099511627776) 98 (λ x log. x.cells ≡ 2)
  unfolding unfolded
  large_not_sent x v wrong p = let right : x.cells ≡ 1 = ap (λ (r : Batch). r.cells) p.answered in omega arith

  -- a call refused since its runs aren't equally long that writes
  pub refused_not_written : Sending 1 true (replicate 8 1) 98 (λ x log. get_or log 0 0 ≡ 0)
  unfolding unfolded
  refused_not_written x v wrong p =
      let right : get_or v.1.1.1.1.0 0 0 ≡ 9 = ap (λ (m : List ℕ). get_or m 0 0) p.log_after_lem in omega arith
