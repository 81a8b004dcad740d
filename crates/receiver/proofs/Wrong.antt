-- Wrong answers to the public functions: their contracts rule them out. Stated over the contracts themselves.
-- Assumes nothing.
use mathlib.Core.Bool.{Bool, true, false, true≢false}
use mathlib.Core.List.{List, [], ◌∷◌}
use mathlib.Core.Path.{◌≡◌, sym, ◌∙◌, ap}
use Prim.Native.Nat.{ℕ, ◌^◌}
use native.Mathlib.Omega.{arith}
use contract.Lifetimes.{Lfts}
use lib.ListN.{get_or, set, replicate}
use Rattle.runs.specs.Refusals.{or_else}
use Rattle.runs.specs.Runs.{tab, joined, octets_of, read_on, over}
use Rattle.runs.proofs.Wrong.{Never, Place, lent, lent_mut}
use Rattle.formats.specs.Formats.{format_of}
use Rattle.formats.proofs.Wrong as formats
use Rattle.numbers.specs.Numbers.{refusal_of, value_of, entry_of}
use Rattle.numbers.proofs.Wrong as numbers
use Rattle.guards.proofs.Wrong as guards
use Rattle.cells.specs.Cells.{
  overhead_of,
  subframe_of,
  slot_octets,
  cell_of,
  subframe_at,
  sample_in,
  ancillary_in,
  mark_in,
  bit_in,
  eight_in,
  second_in,
  entries_of,
}
use Rattle.cells.specs.Placement.{slot_of, slot_of_entry, entry_of_slot, carried}
use Rattle.receiver.specs.declared.Receiver.{Receiver}
use Rattle.receiver.specs.declared.Ready.{Ready}
use Rattle.receiver.specs.declared.Received.{Received}
use Rattle.receiver.specs.Receiver.{
  opened_of,
  last_refused,
  count_refused,
  state_refusal,
  lengths_refused,
  found_now,
  gap_of,
  count_after,
  receive_refusal,
  entries_now,
  second_now,
  after,
  received_of,
  judged_of,
  entries_given,
}
use Rattle.receiver.proofs.judged.Kinds as judged-kinds
use Rattle.receiver.proofs.judged.Reads as judged-reads
use Rattle.receiver.proofs.opened.Kinds as opened-kinds
use Rattle.receiver.proofs.opened.Reads as opened-reads
use Rattle.receiver.proofs.placed.Kinds as placed-kinds
use Rattle.receiver.proofs.placed.Reads as placed-reads
use Rattle.receiver.proofs.receive.Kinds as receive-kinds
use Rattle.receiver.proofs.receive.Reads as receive-reads

-- every definition on the way down to the numbers
unfoldable cells_unfolded : Unit {0}
unfolding tab joined octets_of read_on overhead_of subframe_of slot_octets cell_of subframe_at sample_in ancillary_in mark_in bit_in eight_in second_in
cells_unfolded = tt

unfoldable placed_unfolded : Unit {0}
unfolding entries_of slot_of slot_of_entry entry_of_slot carried over or_else refusal_of value_of opened_of last_refused count_refused state_refusal lengths_refused after
placed_unfolded = tt

unfoldable pub unfolded : Unit {0}
unfolding formats.unfolded numbers.unfolded guards.unfolded cells_unfolded placed_unfolded found_now gap_of count_after
    receive_refusal entries_now second_now received_of judged_of entries_given
unfolded = tt

-- openings: format, C, order
module _ (κs : Lfts 0) where
  -- an opening that nothing is wrong with refused, by whatever number
  pub opening_not_always_refused : Never opened-kinds.ps opened-kinds.r opened-reads.Post κs (0x56, (2, (1, tt))) (λ x v. x.refusal ≡ 0 → ⊥)
  unfolding unfolded
  opening_not_always_refused x v wrong p = wrong (ap (λ (s : Ready). s.refusal) p)

  -- an order above 1 taken
  pub opening_not_of_order_2 : Never opened-kinds.ps opened-kinds.r opened-reads.Post κs (0x56, (2, (2, tt))) (λ x v. x.refusal ≡ 0)
  unfolding unfolded
  opening_not_of_order_2 x v wrong p = let right : x.refusal ≡ 3 = ap (λ (s : Ready). s.refusal) p in omega arith

  -- a receiver opened as started already, so that the first cell's number would be held against 0
  pub opening_not_started : Never opened-kinds.ps opened-kinds.r opened-reads.Post κs (0x56, (2, (1, tt))) (λ x v. x.state.started ≡ true)
  unfolding unfolded
  opening_not_started x v wrong p = true≢false (sym wrong ∙ ap (λ (s : Ready). s.state.started) p)

  -- one that has placed a cell already
  pub opening_not_counted : Never opened-kinds.ps opened-kinds.r opened-reads.Post κs (0x56, (2, (1, tt))) (λ x v. x.state.count ≡ 1)
  unfolding unfolded
  opening_not_counted x v wrong p = let right : x.state.count ≡ 0 = ap (λ (s : Ready). s.state.count) p in omega arith

-- a receiver of one channel in 5A hex, eight samples of forty bits in a cell, that last took the cell of this number and has placed
-- so many
abbrev counting : ℕ → ℕ → Receiver
counting last count = record { format = 0x5A; channels = 1; order = 0; started = true; last = last; count = count }

abbrev archive : ℕ → Receiver
archive last = counting last 1

-- the same receiver before its first cell, with this count
abbrev unstarted : ℕ → Receiver
unstarted count = record { format = 0x5A; channels = 1; order = 0; started = false; last = 0; count = count }

module _ (κs : Lfts 0) where
  -- the last number told for the count
  pub placed_not_last : Never placed-kinds.ps placed-kinds.r placed-reads.Post κs (counting 3 300, tt) (λ x v. x ≡ 3)
  placed_not_last x v wrong p = let right : x ≡ 300 = p in omega arith

  -- the count told modulo 256
  pub placed_not_cut : Never placed-kinds.ps placed-kinds.r placed-reads.Post κs (counting 3 300, tt) (λ x v. x ≡ 44)
  placed_not_cut x v wrong p = let right : x ≡ 300 = p in omega arith

abbrev eight : List ℕ
eight = 1 ∷ 2 ∷ 3 ∷ 4 ∷ 5 ∷ 6 ∷ 7 ∷ 8 ∷ []

-- the cell of a number, with the eight samples
abbrev cell_numbered : ℕ → List ℕ
cell_numbered number = cell_of (format_of 0x5A) false 1 8 (entry_of number) 0 eight (replicate 8 0)

abbrev third : List ℕ
third = cell_numbered 3

-- a receiver of 32-bit samples without overhead
abbrev bare : Receiver
bare = record { format = 0x08; channels = 12; order = 0; started = true; last = 0; count = 1 }

-- a receiver of one channel in 17 hex, which has overhead and no ancillary field, and a cell with the ninth bit alone in each sample
abbrev abroad : Receiver
abroad = record { format = 0x17; channels = 1; order = 0; started = true; last = 2; count = 3 }

abbrev ninths : List ℕ
ninths = cell_of (format_of 0x17) false 1 12 (entry_of 3) 0 (replicate 12 (2 ^ 19)) (replicate 12 0)

module _ (κs : Lfts 4) (c s a m : Place) where
  -- a call with this cell and this indication, on three runs of so many sevens
  abbrev Indicated : Bool → Receiver → List ℕ → ℕ → (Received → List ℕ → List ℕ → List ℕ → Type 0) → Type 0
  Indicated indication st cell room Wrong =
      Never receive-kinds.ps receive-kinds.r receive-reads.Post κs
      (st, (lent c cell, (indication, (lent_mut s (replicate room 7), (lent_mut a (replicate room 7), (lent_mut m (replicate room 7), tt))))))
      (λ x v. Wrong x v.1.1.1.0 v.1.1.1.1.0 v.1.1.1.1.1.0)

  abbrev Receiving : Receiver → List ℕ → ℕ → (Received → List ℕ → List ℕ → List ℕ → Type 0) → Type 0
  Receiving = Indicated false

  -- refused although nothing is wrong, by whatever number
  pub not_always_refused : Receiving (archive 2) third 9 (λ x samples ancillary marks. x.refusal ≡ 0 → ⊥)
  unfolding unfolded
  not_always_refused x v wrong p = wrong (ap (λ (r : Received). r.refusal) p.answered)

  -- the box that writes nothing: a run left as it was lent
  pub samples_not_left : Receiving (archive 2) third 9 (λ x samples ancillary marks. samples ≡ replicate 9 7)
  unfolding unfolded
  samples_not_left x v wrong p =
      let first : ◌≡◌ {A = ℕ} 7 1 = ap (λ (l : List ℕ). get_or l 0 0) (sym wrong ∙ p.samples_after) in omega arith

  pub ancillary_not_left : Receiving (archive 2) third 9 (λ x samples ancillary marks. ancillary ≡ replicate 9 7)
  unfolding unfolded
  ancillary_not_left x v wrong p =
      let first : ◌≡◌ {A = ℕ} 7 0 = ap (λ (l : List ℕ). get_or l 0 0) (sym wrong ∙ p.ancillary_after) in omega arith

  pub marks_not_left : Receiving (archive 2) third 9 (λ x samples ancillary marks. marks ≡ replicate 9 7)
  unfolding unfolded
  marks_not_left x v wrong p =
      let first : ◌≡◌ {A = ℕ} 7 0 = ap (λ (l : List ℕ). get_or l 0 0) (sym wrong ∙ p.marks_after) in omega arith

  -- an entry past the cell's own cleared
  pub past_not_cleared : Receiving (archive 2) third 9 (λ x samples ancillary marks. get_or samples 8 0 ≡ 0)
  unfolding unfolded
  past_not_cleared x v wrong p = let right : get_or v.1.1.1.0 8 0 ≡ 7 = ap (λ (l : List ℕ). get_or l 8 0) p.samples_after in omega arith

  -- a missing cell invented
  pub missing_not_invented : Receiving (archive 2) third 9 (λ x samples ancillary marks. x.missing ≡ 1)
  unfolding unfolded
  missing_not_invented x v wrong p = let right : x.missing ≡ 0 = ap (λ (r : Received). r.missing) p.answered in omega arith

  -- a missing cell left out: the cell's own entries in its place
  pub missing_not_left_out : Receiving (archive 1) third 16 (λ x samples ancillary marks. get_or marks 0 0 ≡ 0)
  unfolding unfolded
  missing_not_left_out x v wrong p =
      let right : get_or v.1.1.1.1.1.0 0 0 ≡ 2 = ap (λ (l : List ℕ). get_or l 0 0) p.marks_after in omega arith

  -- mark 0 for a spoiled sample: the top bit of the first one is altered
  pub spoiled_not_marked_sound : Receiving (archive 2) (set third 0 128) 9 (λ x samples ancillary marks. get_or marks 0 0 ≡ 0)
  unfolding unfolded
  spoiled_not_marked_sound x v wrong p =
      let right : get_or v.1.1.1.1.1.0 0 0 ≡ 1 = ap (λ (l : List ℕ). get_or l 0 0) p.marks_after in omega arith

  -- protection judged as if V were 0: the ninth bit alone has 100 without V, and 001 with it
  pub no_v_not_judged_as_v_0 : Receiving abroad ninths 12 (λ x samples ancillary marks. get_or marks 0 0 ≡ 1)
  unfolding unfolded
  no_v_not_judged_as_v_0 x v wrong p =
      let right : get_or v.1.1.1.1.1.0 0 0 ≡ 0 = ap (λ (l : List ℕ). get_or l 0 0) p.marks_after in omega arith

  -- the ancillary run left where the format has no ancillary bits
  pub no_field_not_left : Receiving abroad ninths 12 (λ x samples ancillary marks. ancillary ≡ replicate 12 7)
  unfolding unfolded
  no_field_not_left x v wrong p =
      let first : ◌≡◌ {A = ℕ} 7 0 = ap (λ (l : List ℕ). get_or l 0 0) (sym wrong ∙ p.ancillary_after) in omega arith

  -- a spoiled number taken: the first sequencing bit is altered
  pub spoiled_number_not_taken : Receiving (archive 2) (set third 5 7) 9 (λ x samples ancillary marks. x.refusal ≡ 0)
  unfolding unfolded
  spoiled_number_not_taken x v wrong p = let right : x.refusal ≡ 8 = ap (λ (r : Received). r.refusal) p.answered in omega arith

  -- 9 before 8: the same taken for a repeat, its number counting as 16, where the last one was 0
  pub spoiled_number_not_a_repeat : Receiving (archive 0) (set third 5 7) 9 (λ x samples ancillary marks. x.refusal ≡ 9)
  unfolding unfolded
  spoiled_number_not_a_repeat x v wrong p = let right : x.refusal ≡ 8 = ap (λ (r : Received). r.refusal) p.answered in omega arith

  -- a call refused for room: the state moved, and the missing cell filled in already
  pub refused_not_counted : Receiving (archive 1) third 9 (λ x samples ancillary marks. x.state.last ≡ 3)
  unfolding unfolded
  refused_not_counted x v wrong p = let right : x.state.last ≡ 1 = ap (λ (r : Received). r.state.last) p.answered in omega arith

  pub refused_not_written : Receiving (archive 1) third 9 (λ x samples ancillary marks. get_or marks 0 0 ≡ 2)
  unfolding unfolded
  refused_not_written x v wrong p =
      let right : get_or v.1.1.1.1.1.0 0 0 ≡ 7 = ap (λ (l : List ℕ). get_or l 0 0) p.marks_after in omega arith

  -- a cell numbered 5 taken with indication 1
  pub indication_not_at_5 : Indicated true (archive 4) (cell_numbered 5) 9 (λ x samples ancillary marks. x.refusal ≡ 0)
  unfolding unfolded
  indication_not_at_5 x v wrong p = let right : x.refusal ≡ 15 = ap (λ (r : Received). r.refusal) p.answered in omega arith

  -- 9 before 15: the same taken for a repeat
  pub indication_not_after_9 : Indicated true (archive 5) (cell_numbered 5) 9 (λ x samples ancillary marks. x.refusal ≡ 9)
  unfolding unfolded
  indication_not_after_9 x v wrong p = let right : x.refusal ≡ 15 = ap (λ (r : Received). r.refusal) p.answered in omega arith

  -- 15 before 8: a spoiled number's cell turned down for its indication
  pub indication_not_before_8 : Indicated true (archive 2) (set third 5 7) 9 (λ x samples ancillary marks. x.refusal ≡ 15)
  unfolding unfolded
  indication_not_before_8 x v wrong p = let right : x.refusal ≡ 8 = ap (λ (r : Received). r.refusal) p.answered in omega arith

  -- 15 at a multiple of 8
  pub indication_not_against_8 : Indicated true (archive 7) (cell_numbered 8) 9 (λ x samples ancillary marks. x.refusal ≡ 15)
  unfolding unfolded
  indication_not_against_8 x v wrong p = let right : x.refusal ≡ 0 = ap (λ (r : Received). r.refusal) p.answered in omega arith

  -- 15 in a format without overhead
  pub indication_not_without_overhead : Indicated true bare (cell_numbered 5) 12 (λ x samples ancillary marks. x.refusal ≡ 15)
  unfolding unfolded
  indication_not_without_overhead x v wrong p =
      let right : x.refusal ≡ 0 = ap (λ (r : Received). r.refusal) p.answered in omega arith

  -- a first cell refused 15 that starts the receiver all the same
  pub wrongly_indicated_not_counted : Indicated true (unstarted 0) (cell_numbered 5) 9
      (λ x samples ancillary marks. x.state.started ≡ true)
  unfolding unfolded
  wrongly_indicated_not_counted x v wrong p = true≢false (sym wrong ∙ ap (λ (r : Received). r.state.started) p.answered)

  -- the count of sound cells alone: one was missing before this one
  pub missing_not_uncounted : Receiving (archive 1) third 16 (λ x samples ancillary marks. x.state.count ≡ 2)
  unfolding unfolded
  missing_not_uncounted x v wrong p =
      let right : x.state.count ≡ 3 = ap (λ (r : Received). r.state.count) p.answered in omega arith

  -- a refused call counted: a repeat as a cell, and what there was no room for
  pub repeat_not_counted : Receiving (archive 3) third 9 (λ x samples ancillary marks. x.state.count ≡ 2)
  unfolding unfolded
  repeat_not_counted x v wrong p =
      let right : x.state.count ≡ 1 = ap (λ (r : Received). r.state.count) p.answered in omega arith

  pub without_room_not_counted : Receiving (archive 1) third 9 (λ x samples ancillary marks. x.state.count ≡ 3)
  unfolding unfolded
  without_room_not_counted x v wrong p =
      let right : x.state.count ≡ 1 = ap (λ (r : Received). r.state.count) p.answered in omega arith

  -- cells without overhead not counted
  pub bare_not_uncounted : Receiving bare (cell_numbered 5) 12 (λ x samples ancillary marks. x.state.count ≡ 1)
  unfolding unfolded
  bare_not_uncounted x v wrong p =
      let right : x.state.count ≡ 2 = ap (λ (r : Received). r.state.count) p.answered in omega arith

  -- a state not started taken with a count
  pub unstarted_not_with_a_count : Receiving (unstarted 1) third 9 (λ x samples ancillary marks. x.refusal ≡ 0)
  unfolding unfolded
  unstarted_not_with_a_count x v wrong p =
      let right : x.refusal ≡ 4 = ap (λ (r : Received). r.refusal) p.answered in omega arith

  -- a started one refused without
  pub started_not_refused_for_0 : Receiving (counting 2 0) third 9 (λ x samples ancillary marks. x.refusal ≡ 4)
  unfolding unfolded
  started_not_refused_for_0 x v wrong p =
      let right : x.refusal ≡ 0 = ap (λ (r : Received). r.refusal) p.answered in omega arith

  -- the bound is sharp: 20 one cell too early, and one cell more taken
  pub most_not_refused : Receiving (counting 2 4294967294) third 9 (λ x samples ancillary marks. x.refusal ≡ 20)
  unfolding unfolded
  most_not_refused x v wrong p = let right : x.refusal ≡ 0 = ap (λ (r : Received). r.refusal) p.answered in omega arith

  pub most_reached : Receiving (counting 2 4294967294) third 9 (λ x samples ancillary marks. x.state.count ≡ 4294967295 → ⊥)
  unfolding unfolded
  most_reached x v wrong p = wrong (ap (λ (r : Received). r.state.count) p.answered)

  pub most_not_passed : Receiving (counting 2 4294967295) third 9 (λ x samples ancillary marks. x.refusal ≡ 20 → ⊥)
  unfolding unfolded
  most_not_passed x v wrong p = wrong (ap (λ (r : Received). r.refusal) p.answered)

  -- 20 looked for by the sound cell alone: it and the missing one pass the bound
  pub missing_not_past_the_most : Receiving (counting 1 4294967294) third 16 (λ x samples ancillary marks. x.refusal ≡ 0)
  unfolding unfolded
  missing_not_past_the_most x v wrong p =
      let right : x.refusal ≡ 20 = ap (λ (r : Received). r.refusal) p.answered in omega arith

  -- 20 before 9, and 10 before 20
  pub count_not_before_9 : Receiving (counting 3 4294967295) third 9 (λ x samples ancillary marks. x.refusal ≡ 20)
  unfolding unfolded
  count_not_before_9 x v wrong p = let right : x.refusal ≡ 9 = ap (λ (r : Received). r.refusal) p.answered in omega arith

  pub count_not_after_10 : Receiving (counting 2 4294967295) third 0 (λ x samples ancillary marks. x.refusal ≡ 10)
  unfolding unfolded
  count_not_after_10 x v wrong p = let right : x.refusal ≡ 20 = ap (λ (r : Received). r.refusal) p.answered in omega arith

-- judged without runs
module _ (κs : Lfts 1) (c : Place) where
  abbrev Judging : Receiver → List ℕ → (Received → Type 0) → Type 0
  Judging st cell Wrong =
      Never judged-kinds.ps judged-kinds.r judged-reads.Post κs (st, (lent c cell, (false, tt))) (λ x v. Wrong x)

  -- the receiver that only nods: a repeat taken
  pub judged_not_nodding : Judging (archive 3) third (λ x. x.refusal ≡ 0)
  unfolding unfolded
  judged_not_nodding x v wrong p = let right : x.refusal ≡ 9 = ap (λ (r : Received). r.refusal) p in omega arith

  -- refused for room, of which there is enough: fourteen cells missing
  pub judged_not_for_room : Judging (archive 4) third (λ x. x.refusal ≡ 10)
  unfolding unfolded
  judged_not_for_room x v wrong p = let right : x.refusal ≡ 0 = ap (λ (r : Received). r.refusal) p in omega arith

  -- a state that stays although the cell is taken
  pub judged_not_left : Judging (archive 4) third (λ x. x.state.last ≡ 4)
  unfolding unfolded
  judged_not_left x v wrong p = let right : x.state.last ≡ 3 = ap (λ (r : Received). r.state.last) p in omega arith
