-- Wrong answers to the public functions: their contracts rule them out. Stated over the contracts themselves.
-- Assumes nothing.
use Rattle.std.proofs.Common.{◌≡◌, ℕ, Bool, true, false, List, [], ◌∷◌, get_or, replicate, sym, ap, ◌∙◌, arith}
use contract.Lifetimes.{Lfts}
use Rattle.runs.specs.Refusals.{or_else}
use Rattle.runs.specs.Runs.{joined, octets_of}
use Rattle.runs.proofs.Wrong.{Never, Place, lent, lent_mut}
use Rattle.formats.proofs.Wrong as formats
use Rattle.numbers.proofs.Wrong as numbers
use Rattle.guards.proofs.Wrong as guards
use Rattle.guards.specs.Guards.{v_of}
use Rattle.cells.specs.Cells.{overhead_of, subframe_of, slot_octets, cell_of}
use Rattle.cells.specs.Placement.{entry_of_slot, carried}
use Rattle.sender.specs.declared.Ready.{Ready}
use Rattle.sender.specs.declared.Sender.{Sender}
use Rattle.sender.specs.declared.Sent.{Sent}
use Rattle.sender.specs.Sender.{numbers_refused, state_refusal, opened_of, all_below, lengths_refused, values_refused, send_refusal, second_now, after}
use Rattle.sender.specs.Sender.{cell_now, sent_of, cell_after}
use Rattle.sender.proofs.opened.Kinds as opened-kinds
use Rattle.sender.proofs.opened.Reads as opened-reads
use Rattle.sender.proofs.send.Kinds as send-kinds
use Rattle.sender.proofs.send.Reads as send-reads

-- every definition on the way down to the numbers, those of a cell first
unfoldable pub cell_unfolded : Unit {0}
unfolding or_else joined octets_of formats.unfolded numbers.unfolded guards.unfolded v_of overhead_of subframe_of slot_octets cell_of entry_of_slot carried
cell_unfolded = tt

unfoldable pub unfolded : Unit {0}
unfolding cell_unfolded numbers_refused state_refusal opened_of all_below lengths_refused values_refused send_refusal second_now after cell_now sent_of cell_after
unfolded = tt

-- openings: format, C, order, first number, second number wanted or not, its start
module _ (κs : Lfts 0) where
  -- an opening that nothing is wrong with refused, by whatever number
  pub opening_not_always_refused : Never opened-kinds.ps opened-kinds.r opened-reads.Post κs
      (0x56, (2, (0, (0, (true, (3, tt)))))) (λ x v. x.refusal ≡ 0 → ⊥)
  unfolding unfolded
  opening_not_always_refused x v wrong p = wrong (ap (λ (s : Ready). s.refusal) p)

  -- a start number of 16 taken for 0
  pub opening_not_modulo_16 : Never opened-kinds.ps opened-kinds.r opened-reads.Post κs
      (0x56, (2, (0, (16, (false, (0, tt)))))) (λ x v. x.refusal ≡ 0)
  unfolding unfolded
  opening_not_modulo_16 x v wrong p = let right : x.refusal ≡ 4 = ap (λ (s : Ready). s.refusal) p in omega arith

  -- the numbers of a refused opening kept in its state
  pub refused_opening_not_kept : Never opened-kinds.ps opened-kinds.r opened-reads.Post κs
      (0x56, (13, (0, (0, (false, (0, tt)))))) (λ x v. x.state.channels ≡ 13)
  unfolding unfolded
  refused_opening_not_kept x v wrong p = let right : x.state.channels ≡ 0 = ap (λ (s : Ready). s.state.channels) p in omega arith

  -- 15 hex refused as before request 4, or since a second number is wanted
  pub opening_of_15_not_refused : Never opened-kinds.ps opened-kinds.r opened-reads.Post κs
      (0x15, (16, (1, (0, (true, (3, tt)))))) (λ x v. x.refusal ≡ 0 → ⊥)
  unfolding unfolded
  opening_of_15_not_refused x v wrong p = wrong (ap (λ (s : Ready). s.refusal) p)

-- a sender of one channel in 5A hex, eight samples of forty bits in a cell, its next cell to have this number
abbrev studio : ℕ → Sender
studio number = record { format = 0x5A; channels = 1; order = 0; number = number; wanted = false; second = 0; sent = true }

abbrev eight : List ℕ
eight = 1 ∷ 2 ∷ 3 ∷ 4 ∷ 5 ∷ 6 ∷ 7 ∷ 8 ∷ []

abbrev zeros : List ℕ
zeros = replicate 8 0

-- a sender of one channel in 15 hex, sixteen samples of twenty bits in a cell, and a row whose first sample is the ninth bit alone
abbrev abroad : Sender
abroad = record { format = 0x15; channels = 1; order = 0; number = 0; wanted = false; second = 0; sent = true }

abbrev ninth : List ℕ
ninth = 0x800 ∷ replicate 15 0

module _ (κs : Lfts 3) (s a c : Place) where
  -- a call with these samples and ancillary numbers, and this cell lent to it
  abbrev SendingOf : List ℕ → List ℕ → Sender → Bool → List ℕ → (Sent → List ℕ → Type 0) → Type 0
  SendingOf samples ancillary st indication cell Wrong =
      Never send-kinds.ps send-kinds.r send-reads.Post κs (st, (indication, (lent s samples, (lent a ancillary, (lent_mut c cell, tt)))))
      (λ x v. Wrong x v.1.1.1.1.0)

  abbrev Sending : Sender → Bool → List ℕ → (Sent → List ℕ → Type 0) → Type 0
  Sending = SendingOf eight zeros

  -- refused although nothing is wrong, by whatever number
  pub not_always_refused : Sending (studio 0) false (replicate 48 0) (λ x cell. x.refusal ≡ 0 → ⊥)
  unfolding unfolded
  not_always_refused x v wrong p = wrong (ap (λ (r : Sent). r.refusal) p.answered)

  -- the box that writes nothing: the cell left as it was lent_mut
  pub not_left_as_it_was : Sending (studio 0) false (replicate 48 0) (λ x cell. cell ≡ replicate 48 0)
  unfolding unfolded
  not_left_as_it_was x v wrong p =
      let first : ◌≡◌ {A = ℕ} 0 1 = ap (λ (l : List ℕ). get_or l 4 0) (sym wrong ∙ p.cell_after_lem) in omega arith

  -- the box that always writes the cell of zeros
  pub not_always_the_zero_cell : Sending (studio 0) false (replicate 48 0) (λ x cell. cell ≡ cell_now (studio 0) false zeros zeros)
  unfolding unfolded
  not_always_the_zero_cell x v wrong p =
      let first : ◌≡◌ {A = ℕ} 0 1 = ap (λ (l : List ℕ). get_or l 4 0) (sym wrong ∙ p.cell_after_lem) in omega arith

  -- a cell sent and its number used again
  pub number_not_kept : Sending (studio 15) false (replicate 48 0) (λ x cell. x.state.number ≡ 15)
  unfolding unfolded
  number_not_kept x v wrong p = let right : x.state.number ≡ 0 = ap (λ (r : Sent). r.state.number) p.answered in omega arith

  -- the state moved on by a refused call: indication 1 at number 4
  pub refused_not_counted : Sending (studio 4) true (replicate 48 0) (λ x cell. x.state.number ≡ 5)
  unfolding unfolded
  refused_not_counted x v wrong p = let right : x.state.number ≡ 4 = ap (λ (r : Sent). r.state.number) p.answered in omega arith

  -- the cell of a refused call written
  pub refused_not_written : Sending (studio 4) true (replicate 48 0) (λ x cell. cell ≡ cell_now (studio 4) true eight zeros)
  unfolding unfolded
  refused_not_written x v wrong p =
      let first : ◌≡◌ {A = ℕ} 1 0 = ap (λ (l : List ℕ). get_or l 4 0) (sym wrong ∙ p.cell_after_lem) in omega arith

  -- 15 hex protected as if V were 0: the first slot's last octet would end in 001, where it ends in 100
  pub no_v_not_as_v_0 : SendingOf ninth (replicate 16 0) abroad false (replicate 48 0) (λ x cell. get_or cell 2 0 ≡ 1)
  unfolding unfolded
  no_v_not_as_v_0 x v wrong p =
      let last : ◌≡◌ {A = ℕ} 4 1 = sym (ap (λ (l : List ℕ). get_or l 2 0) p.cell_after_lem) ∙ wrong in omega arith

  -- an ancillary number sent by 15 hex, which has no field for it
  pub no_field_not_filled : SendingOf ninth (1 ∷ replicate 15 0) abroad false (replicate 48 0) (λ x cell. x.refusal ≡ 0)
  unfolding unfolded
  no_field_not_filled x v wrong p = let right : x.refusal ≡ 6 = ap (λ (r : Sent). r.refusal) p.answered in omega arith
