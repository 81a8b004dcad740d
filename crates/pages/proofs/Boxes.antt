-- Demands 1 and 2 of any two boxes, and what else document 01 says of a call of either box, on one page. Each proof is a citation.
-- Assumes nothing.
use mathlib.Core.Path.{◌≡◌}
use Prim.Native.Nat.{ℕ, ◌<◌}
use lib.ListN.{get_or}
use Rattle.receiver.specs.Receiver as R
use Rattle.line.specs.Calls.{SendCall, MeetsSend, ReceiveCall, MeetsReceive}
use Rattle.line.proofs.Demands as line
use Rattle.pages.specs.Boxes.{
  Demand1,
  Demand2,
  RefusesAll,
  GivesZeros,
  SendsUnwritten,
  ReceivesUnwritten,
  GoesOn,
  Marks,
  ReadAlike,
  AnsweredAlike,
}
use Rattle.pages.proofs.Read as Read
use Rattle.pages.proofs.Sent as Sent
use Rattle.pages.proofs.WrongBoxes as Wrong

-- Demands 1 and 2 of our boxes.
pub demand_1 : Demand1 MeetsSend MeetsReceive
demand_1 = record { sends = line.demand_1_send; receives = line.demand_1_receive }

pub demand_2 : Demand2 MeetsSend MeetsReceive
demand_2 = record { cells = line.demand_2_cell; back = line.demand_2 }

-- "Tried against them: a box that refuses everything, or always gives the zero cell, or writes nothing (demand 2 shuts out all three, with
-- demand 1's exact refusals)": the first falls by demand 1, the others by demand 2. What each of them does meet is beside it.
pub refuses_all_out : Demand1 RefusesAll MeetsReceive → ⊥
refuses_all_out = Wrong.refuses_all_out

pub refuses_all_2 : Demand2 RefusesAll MeetsReceive
refuses_all_2 = Wrong.refuses_all_2

pub zeros_out : Demand2 GivesZeros MeetsReceive → ⊥
zeros_out = Wrong.zeros_out

pub zeros_1 : Demand1 GivesZeros MeetsReceive
zeros_1 = Wrong.zeros_1

pub unwritten_cell_out : Demand2 SendsUnwritten MeetsReceive → ⊥
unwritten_cell_out = Wrong.unwritten_cell_out

pub unwritten_runs_out : Demand2 MeetsSend ReceivesUnwritten → ⊥
unwritten_runs_out = Wrong.unwritten_runs_out

pub unwritten_1 : Demand1 SendsUnwritten ReceivesUnwritten
unwritten_1 = Wrong.unwritten_1

-- "The sender packs samples into 48-octet cell payloads": each of the 48 numbers of a sent cell is an octet.
pub sent_octets : (s : SendCall) → MeetsSend s → s.answer.refusal ≡ 0 → (i : ℕ) → get_or s.written i 0 < 256
sent_octets = Sent.sent_octets

-- "Each cell's number is one more than the last, modulo 16", and what comes of the second number.
pub goes_on : (s : SendCall) → MeetsSend s → s.answer.refusal ≡ 0 → GoesOn s
goes_on = Sent.goes_on

-- "Mark 0 is sound; mark 1 means that the three protection bits disagree, and the sample is still given": of each channel at each time of
-- a cell that the receiver takes.
pub marks : (r : ReceiveCall) → MeetsReceive r → r.answer.refusal ≡ 0 → (channel time : ℕ) → channel < r.state.channels
    → time < R.times_now r.state → Marks r channel time
marks = Read.marks

-- "the receiver doesn't judge them" (unused slots); "Later bits are sent as zero and not read".
pub read_alike : (a b : ReceiveCall) → MeetsReceive a → MeetsReceive b → ReadAlike a b → AnsweredAlike a b
read_alike = Read.read_alike
