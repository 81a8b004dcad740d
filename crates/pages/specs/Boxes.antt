-- Demands 1 and 2 of any two boxes, as demand 3 has them, and what else document 01 says of a call of either box.
-- Assumes nothing.
use Rattle.std.specs.Prelude.{true, false, ◌≡◌, ℕ, ◌+◌, ◌*◌, ◌%◌, ◌≤◌, ◌<◌, eqb, length, get_or, replicate}
use Rattle.formats.specs.declared.Format.{Format}
use Rattle.formats.specs.Formats.{format_of}
use Rattle.cells.specs.Cells.{guard_in, subframe_at, sample_in, ancillary_in, bit_in}
use Rattle.cells.specs.Placement.{slot_of}
use Rattle.sender.specs.Sender as S
use Rattle.receiver.specs.Receiver as R
use Rattle.line.specs.Calls.{SendCall, ReceiveCall}
use Rattle.line.specs.Demands.{Refuses, send_table, SentNothing, receive_table, ReceivedNothing, IsDocument01's, InSettings, GivesBack}

-- demand 1 of two boxes: both refuse exactly where the table says so, and then leave everything
pub record Demand1 (SendBox : SendCall → Type 0) (ReceiveBox : ReceiveCall → Type 0) : Type 0 where
  pub sends : (s : SendCall) → SendBox s → Refuses s.answer.refusal (send_table s) (SentNothing s)
  pub receives : (r : ReceiveCall) → ReceiveBox r → Refuses r.answer.refusal (receive_table r) (ReceivedNothing r)

-- demand 2 of two boxes: the cell is document 01's, and a receiver in the sender's settings that takes it gives back what was sent
pub record Demand2 (SendBox : SendCall → Type 0) (ReceiveBox : ReceiveCall → Type 0) : Type 0 where
  pub cells : (s : SendCall) → SendBox s → s.answer.refusal ≡ 0 → IsDocument01's s
  pub back : (s : SendCall) (r : ReceiveCall) → SendBox s → s.answer.refusal ≡ 0 → InSettings s.state r.state
      → r.cell ≡ s.written → ReceiveBox r → r.answer.refusal ≡ 0 → GivesBack s r

-- "a box that refuses everything": a sender that answers 1 and leaves all as it was
pub record RefusesAll (s : SendCall) : Type 0 where
  pub always : s.answer ≡ record { refusal = 1; state = s.state }
  pub cell_left : s.written ≡ s.cell

-- "or always gives the zero cell": it answers as it should, and writes 48 zeros wherever it writes
pub record GivesZeros (s : SendCall) : Type 0 where
  pub answer_right : s.answer ≡ S.sent_of s.state s.indication s.samples s.ancillary (length s.cell)
  pub zeros : s.answer.refusal ≡ 0 → s.written ≡ replicate 48 0
  pub cell_left : (s.answer.refusal ≡ 0 → ⊥) → s.written ≡ s.cell

-- "or writes nothing": a sender, and a receiver, that answer as they should and leave all that was lent
pub record SendsUnwritten (s : SendCall) : Type 0 where
  pub answer_right : s.answer ≡ S.sent_of s.state s.indication s.samples s.ancillary (length s.cell)
  pub cell_left : s.written ≡ s.cell

pub record ReceivesUnwritten (r : ReceiveCall) : Type 0 where
  pub answer_right : r.answer ≡ R.received_of r.state r.cell r.indication (length r.samples) (length r.ancillary) (length r.marks)
  pub samples_left : r.samples_after ≡ r.samples
  pub ancillary_left : r.ancillary_after ≡ r.ancillary
  pub marks_left : r.marks_after ≡ r.marks

-- the sender's next state: "Each cell's number is one more than the last, modulo 16"; "A sender that keeps second numbers adds 1 modulo
-- 16 in each cell with indication 1 except its first, which carries the given start. A sender that doesn't keep them writes 0."
pub record GoesOn (s : SendCall) : Type 0 where
  pub format : s.answer.state.format ≡ s.state.format
  pub channels : s.answer.state.channels ≡ s.state.channels
  pub order : s.answer.state.order ≡ s.state.order
  pub wanted : s.answer.state.wanted ≡ s.state.wanted
  pub sent : s.answer.state.sent ≡ true
  pub number : s.answer.state.number ≡ (s.state.number + 1) % 16
  -- what the cell carries (`second_bits` of demand 2) is what the state keeps
  pub carried : s.answer.state.second ≡ S.second_now s.state s.indication
  pub adds : s.state.wanted ≡ true → s.indication ≡ true → s.state.sent ≡ true
      → s.answer.state.second ≡ (s.state.second + 1) % 16
  pub first : s.state.sent ≡ false → s.answer.state.second ≡ s.state.second
  pub else_stays : s.indication ≡ false → s.answer.state.second ≡ s.state.second
  pub not_kept_lem : s.state.wanted ≡ false → s.answer.state.second ≡ 0

-- the format of a receiver, the subframe of a channel at a time, and the entry of a run where it is put: after those of the missing cells
abbrev pub format_in : ReceiveCall → Format
format_in r = format_of r.state.format

abbrev pub subframe_for : ReceiveCall → ℕ → ℕ → ℕ
subframe_for r channel time =
    subframe_at (format_in r) r.cell (slot_of (eqb r.state.order 1) r.state.channels (R.times_now r.state) channel time)

abbrev pub entry_for : ReceiveCall → ℕ → ℕ → ℕ
entry_for r channel time = r.answer.missing * R.used_now r.state + (time * r.state.channels + channel)

-- "the three protection bits": those that came, and those that the sample and V ask
abbrev pub bits_came : ReceiveCall → ℕ → ℕ → ℕ
bits_came r channel time = subframe_for r channel time % 8

abbrev pub bits_asked : ReceiveCall → ℕ → ℕ → ℕ
bits_asked r channel time =
    guard_in (format_in r) (sample_in (format_in r) (subframe_for r channel time)) (ancillary_in (format_in r) (subframe_for r channel time))

-- "Mark 0 is sound; mark 1 means that the three protection bits disagree, and the sample is still given"
pub record Marks (r : ReceiveCall) (channel time : ℕ) : Type 0 where
  pub sample : get_or r.samples_after (entry_for r channel time) 0 ≡ sample_in (format_in r) (subframe_for r channel time)
  pub ancillary : get_or r.ancillary_after (entry_for r channel time) 0 ≡ ancillary_in (format_in r) (subframe_for r channel time)
  pub damaged : ((format_in r).overhead_bits ≡ 0 → ⊥) → (bits_came r channel time ≡ bits_asked r channel time → ⊥)
      → get_or r.marks_after (entry_for r channel time) 0 ≡ 1
  pub sound : bits_came r channel time ≡ bits_asked r channel time → get_or r.marks_after (entry_for r channel time) 0 ≡ 0
  pub unprotected : (format_in r).overhead_bits ≡ 0 → get_or r.marks_after (entry_for r channel time) 0 ≡ 0

-- two calls of a receiver, alike but for what it doesn't look at in the cell: unused slots, later sequencing bits. "the receiver doesn't
-- judge them", "Later bits are .. not read"; where S is 8 there is no second number
pub record ReadAlike (a b : ReceiveCall) : Type 0 where
  pub state : a.state ≡ b.state
  pub indication : a.indication ≡ b.indication
  pub samples : a.samples ≡ b.samples
  pub ancillary : a.ancillary ≡ b.ancillary
  pub marks : a.marks ≡ b.marks
  pub octets : length a.cell ≡ length b.cell
  pub used_slots : (slot : ℕ) → slot < R.used_now a.state → subframe_at (format_in a) a.cell slot ≡ subframe_at (format_in a) b.cell slot
  pub eight_bits : ((format_in a).overhead_bits ≡ 0 → ⊥) → (slot : ℕ) → slot < 8
      → bit_in (format_in a) a.cell slot ≡ bit_in (format_in a) b.cell slot
  pub twelve_bits : ((format_in a).overhead_bits ≡ 0 → ⊥) → 12 ≤ (format_in a).slots → (slot : ℕ) → slot < 12
      → bit_in (format_in a) a.cell slot ≡ bit_in (format_in a) b.cell slot

pub record AnsweredAlike (a b : ReceiveCall) : Type 0 where
  pub answer : a.answer ≡ b.answer
  pub samples_after : a.samples_after ≡ b.samples_after
  pub ancillary_after : a.ancillary_after ≡ b.ancillary_after
  pub marks_after : a.marks_after ≡ b.marks_after
