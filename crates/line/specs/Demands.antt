-- The words of demands 1 and 2, over the promises of the calls.
-- Assumes nothing.
use Rattle.std.specs.Prelude.{cond, false, List, ◌++◌, ◌≡◌, ℕ, ◌+◌, ◌*◌, ◌≤◌, ◌<◌, eqb, leb, ltb, length, get_or, replicate}
use Rattle.runs.specs.Runs.{over}
use Rattle.cells.specs.Sent.{SentCell}
use Rattle.sender.specs.declared.Sender.{Sender}
use Rattle.sender.specs.Sender as S
use Rattle.receiver.specs.declared.Receiver.{Receiver}
use Rattle.receiver.specs.declared.Received.{Received}
use Rattle.receiver.specs.Receiver as R
use Rattle.status.specs.declared.step.Block.{Block}
use Rattle.status.specs.Step.{Stepped}
use Rattle.cell_log.specs.Answers.{Record}
use Rattle.line.specs.Calls.{SendCall, ReceiveCall}

-- "It refuses exactly where document 01's table says so, under that number"; where it refuses, nothing was changed and nothing else
-- is told
pub record Refuses (refusal table : ℕ) (Nothing : Type 0) : Type 0 where
  pub by_the_table : refusal ≡ table
  pub then_nothing : (refusal ≡ 0 → ⊥) → Nothing

-- the table's refusal of a call
abbrev pub send_table : SendCall → ℕ
send_table c = S.send_refusal c.state c.indication c.samples c.ancillary (length c.cell)

abbrev pub receive_table : ReceiveCall → ℕ
receive_table c =
    R.receive_refusal c.state c.cell c.indication (length c.samples) (length c.ancillary) (length c.marks)

-- "the state then comes back as it went in and nothing lent changes", "with any other reported number 0"
pub record SentNothing (c : SendCall) : Type 0 where
  pub state_as_given : c.answer.state ≡ c.state
  pub cell_as_lent : c.written ≡ c.cell

pub record JudgedNothing (state : Receiver) (r : Received) : Type 0 where
  pub state_as_given : r.state ≡ state
  pub none_missing : r.missing ≡ 0
  pub no_number : r.number ≡ 0
  pub no_second : r.second ≡ 0
  pub no_indication : r.indication ≡ false

pub record ReceivedNothing (c : ReceiveCall) : Type 0 where
  pub nothing_answered : JudgedNothing c.state c.answer
  pub samples_as_lent : c.samples_after ≡ c.samples
  pub ancillary_as_lent : c.ancillary_after ≡ c.ancillary
  pub marks_as_lent : c.marks_after ≡ c.marks

-- "A mark above 2, .. is refused": the block is as it was lent, and 24 zeros go out with neither yes nor no
pub record SteppedNothing (block : Block) (r : Stepped) : Type 0 where
  pub block_as_lent : r.block ≡ block
  pub zeros_out : r.handed.octets ≡ replicate 24 0
  pub neither : r.handed.answer ≡ 0

-- a record: 11 for "an indication above 1", 12 for "a record cut before its 48 octets end"; none at the log's end or past it
abbrev pub record_table : List ℕ → ℕ → ℕ
record_table log place =
    cond (leb (length log) place) 0 (cond (ltb 1 (get_or log place 0)) 11 (cond (ltb (length log) (place + 49)) 12 0))

pub record ReadNothing (r : Record) : Type 0 where
  pub no_cell : r.what ≡ 0
  pub no_indication : r.indication ≡ false
  pub no_start : r.start ≡ 0
  pub no_next : r.next ≡ 0

-- "Cells, number protection, data protection and placement are document 01's"
abbrev pub IsDocument01's : SendCall → Type 0
IsDocument01's s =
    SentCell (S.format_now s.state) (eqb s.state.order 1) s.state.channels (S.times_now s.state) s.state.number
    (S.second_now s.state s.indication) s.samples s.ancillary s.written

-- "a receiver in the sender's settings"
pub record InSettings (st : Sender) (rc : Receiver) : Type 0 where
  pub format : rc.format ≡ st.format
  pub channels : rc.channels ≡ st.channels
  pub order : rc.order ≡ st.order

-- "gives back every sample and ancillary bit", after the entries of the cells that the answer tells missing, and marked sound
pub record GivesBack (s : SendCall) (r : ReceiveCall) : Type 0 where
  pub samples_back : r.samples_after ≡ over (replicate (r.answer.missing * S.used_now s.state) 0 ++ s.samples) r.samples
  pub ancillary_back : r.ancillary_after ≡ over (replicate (r.answer.missing * S.used_now s.state) 0 ++ s.ancillary) r.ancillary
  pub marked_sound : r.marks_after
      ≡ over (replicate (r.answer.missing * S.used_now s.state) 2 ++ replicate (S.used_now s.state) 0) r.marks

-- beside it, of a format with overhead: the receiver reports the cell's number and its second number
pub record Tells (s : SendCall) (r : ReceiveCall) : Type 0 where
  pub number_told : r.answer.number ≡ s.state.number
  pub second_told_lem : 12 ≤ (S.format_now s.state).slots → r.answer.second ≡ S.second_now s.state s.indication
  pub no_second_told : (S.format_now s.state).slots < 12 → r.answer.second ≡ 0
