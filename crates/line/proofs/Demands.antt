-- The demands on one page: each statement beside its sentence, each proof a citation.
-- Assumes nothing.
use mathlib.Core.Bool.{Bool, false, cond, ◌||◌}
use mathlib.Core.List.{List, [], ◌∷◌, flat_map}
use mathlib.Core.Path.{◌≡◌}
use Prim.Native.Nat.{ℕ}
use native.Mathlib.Nat.{le_trans}
use lib.ListN.{length, replicate}
use Rattle.formats.specs.Formats.{settings_refusal}
use Rattle.sender.specs.declared.Ready as SR
use Rattle.sender.specs.Sender as S
use Rattle.receiver.specs.declared.Ready.{Ready}
use Rattle.receiver.specs.declared.Receiver.{Receiver}
use Rattle.receiver.specs.declared.Received.{Received}
use Rattle.receiver.specs.Receiver as R
use Rattle.status.specs.declared.step.Block.{Block}
use Rattle.status.specs.Step.{Stepped, is_refused}
use Rattle.cell_log.specs.Answers.{Number, Header, Record, Kept}
use Rattle.cell_log.specs.Numbers.{is_cut, is_long, is_padded, number_at}
use Rattle.cell_log.specs.Records.{header_refusal, second_number, third_number}
use Rattle.cell_log.specs.Written.{number_refusal, header_refused_of, record_refusal}
use Rattle.presence.specs.declared.Presence.{Presence}
use Rattle.saving.specs.declared.Salvaged.{Salvaged}
use Rattle.saving.specs.Salvage.{salvage_refusal}
use Rattle.cable.specs.Frames.{Imported, Exported, import_refusal, export_refusal}
use Rattle.units.specs.Back.{ExportCall, export_table, ExportedNothing, ReadCall, read_table, EnteredNothing}
use Rattle.circuits.specs.Circuits.{Verdict, refusal_of, answer_of, circuit_of, octet_refusal, check_refusal, plan_refusal_of}
use Rattle.figures.specs.Sheets.{Answer, sheet_refusal}
use Rattle.line.specs.Calls.{
  SendCall,
  MeetsSend,
  ReceiveCall,
  MeetsReceive,
  MeetsOpenSender,
  MeetsOpenReceiver,
  MeetsPlaced,
  MeetsJudged,
  MeetsStep,
  MeetsReadNumber,
  MeetsReadHeader,
  MeetsAnything,
  MeetsReadRecord,
  MeetsReadCell,
  MeetsNextPlace,
  MeetsWriteNumber,
  MeetsWriteHeader,
  MeetsWriteRecord,
  MeetsSalvage,
  MeetsImport,
  MeetsExport,
  MeetsExportUnits,
  MeetsReadUnit,
  MeetsCheckCircuits,
  MeetsPlanCircuits,
  MeetsSheet,
}
use Rattle.line.specs.Demands.{
  Refuses,
  send_table,
  SentNothing,
  receive_table,
  ReceivedNothing,
  JudgedNothing,
  SteppedNothing,
  record_table,
  ReadNothing,
  IsDocument01's,
  InSettings,
  GivesBack,
  Tells,
}
use Rattle.line.specs.Line.{OverTheLine, Demand3, refusals, refusals_of, CountsCells}
use Rattle.line.proofs.Calls.{sends_or_nothing, receives_or_nothing, gives_back, tells}
use Rattle.line.proofs.Cells.{is_document_01's}
use Rattle.line.proofs.Counts.{counts_cells}
use Rattle.line.proofs.Places.{longest_inside, demand_3_inside}
use Rattle.line.proofs.Refused.{
  opens_sender,
  opens_receiver,
  judges,
  steps,
  reads_number,
  reads_header,
  asks_anything,
  reads_record,
  reads_cell,
  next_stays,
  keeps,
  salvages,
  imports,
  exports,
  exports_units,
  reads_unit,
  checks_circuits,
  plans_circuits,
  sheets,
}

-- 1. "Each public call takes arbitrary octets, numbers, run lengths and states, and ends with an answer. It refuses exactly where
-- document 01's table says so, under that number; the state then comes back as it went in and nothing lent changes." The same of the C
-- calls stands in pages/Calls, and what a list says of a log that is refused in pages/Document.
pub demand_1_send : (s : SendCall) → MeetsSend s → Refuses s.answer.refusal (send_table s) (SentNothing s)
demand_1_send = sends_or_nothing

pub demand_1_receive : (r : ReceiveCall) → MeetsReceive r → Refuses r.answer.refusal (receive_table r) (ReceivedNothing r)
demand_1_receive = receives_or_nothing

pub demand_1_open_sender : (octet channels order number : ℕ) (wanted : Bool) (second : ℕ) (r : SR.Ready)
    → MeetsOpenSender octet channels order number wanted second r
    → Refuses r.refusal (S.state_refusal (S.open_state octet channels order number wanted second)) (r.state ≡ S.zero_state)
demand_1_open_sender = opens_sender

pub demand_1_open_receiver : (octet channels order : ℕ) (r : Ready) → MeetsOpenReceiver octet channels order r
    → Refuses r.refusal (settings_refusal octet channels order) (r.state ≡ R.zero_state)
demand_1_open_receiver = opens_receiver

-- it refuses nothing
pub demand_1_placed : (st : Receiver) (r : ℕ) → MeetsPlaced st r → r ≡ st.count
demand_1_placed st r meets = meets

pub demand_1_judged : (state : Receiver) (cell : List ℕ) (indication : Bool) (r : Received) → MeetsJudged state cell indication r
    → Refuses r.refusal (R.receive_refusal state cell indication 720 720 720) (JudgedNothing state r)
demand_1_judged = judges

pub demand_1_status : (block : Block) (ancillary mark : ℕ) (r : Stepped) → MeetsStep block ancillary mark r
    → Refuses r.handed.refusal (cond (is_refused block.bits ancillary mark) 14 0) (SteppedNothing block r)
demand_1_status = steps

pub demand_1_read_number : (log : List ℕ) (place : ℕ) (r : Number) → MeetsReadNumber log place r
    → Refuses r.refusal (cond (is_cut log place || (is_long log place || is_padded log place)) 11 0) ((r.value ≡ 0) × (r.next ≡ 0))
demand_1_read_number = reads_number

pub demand_1_read_header : (log : List ℕ) (r : Header) → MeetsReadHeader log r
    → Refuses r.refusal (header_refusal (number_at log 0) (second_number log) (third_number log))
    ((r.place ≡ 0) × (r.format ≡ 0) × (r.channels ≡ 0) × (r.order ≡ 0))
demand_1_read_header = reads_header

pub demand_1_anything : (log : List ℕ) (r : Presence) → MeetsAnything log r
    → Refuses r.refusal (header_refusal (number_at log 0) (second_number log) (third_number log)) ((r.found ≡ false) × (r.number ≡ 0))
demand_1_anything = asks_anything

pub demand_1_read_record : (log : List ℕ) (place : ℕ) (r : Record) → MeetsReadRecord log place r
    → Refuses r.refusal (record_table log place) (ReadNothing r)
demand_1_read_record = reads_record

pub demand_1_read_cell : (log : List ℕ) (place : ℕ) (part : List ℕ) → MeetsReadCell log place part
    → (record_table log place ≡ 0 → ⊥) → part ≡ []
demand_1_read_cell = reads_cell

pub demand_1_next_place : (log : List ℕ) (place next : ℕ) → MeetsNextPlace log place next → (record_table log place ≡ 0 → ⊥) → next ≡ place
demand_1_next_place = next_stays

pub demand_1_write_number : (log : List ℕ) (place value : ℕ) (r : Kept) (after : List ℕ) → MeetsWriteNumber log place value r after
    → Refuses r.refusal (number_refusal log place value) ((r.next ≡ 0) × (after ≡ log))
demand_1_write_number log place value r after meets = keeps meets

pub demand_1_write_header : (log : List ℕ) (octet channels order : ℕ) (r : Kept) (after : List ℕ)
    → MeetsWriteHeader log octet channels order r after
    → Refuses r.refusal (header_refused_of log octet channels order) ((r.next ≡ 0) × (after ≡ log))
demand_1_write_header log octet channels order r after meets = keeps meets

pub demand_1_write_record : (log : List ℕ) (place : ℕ) (indication : Bool) (cell : List ℕ) (r : Kept) (after : List ℕ)
    → MeetsWriteRecord log place indication cell r after
    → Refuses r.refusal (record_refusal log place cell) ((r.next ≡ 0) × (after ≡ log))
demand_1_write_record log place indication cell r after meets = keeps meets

pub demand_1_salvage : (log out list : List ℕ) (r : Salvaged) (out₁ list₁ : List ℕ) → MeetsSalvage log out list r out₁ list₁
    → Refuses r.refusal (salvage_refusal log (length out) (length list))
    ((r.octets ≡ 0) × (r.left_out ≡ 0) × (r.cut ≡ 0) × (out₁ ≡ out) × (list₁ ≡ list))
demand_1_salvage = salvages

pub demand_1_import : (preambles subframes : List ℕ) (r : Imported) → MeetsImport preambles subframes r
    → Refuses r.refusal (import_refusal preambles subframes) ((r.samples ≡ 0 ∷ 0 ∷ []) × (r.ancillary ≡ 0 ∷ 0 ∷ []))
demand_1_import = imports

pub demand_1_export : (samples ancillary : List ℕ) (r : Exported) → MeetsExport samples ancillary r
    → Refuses r.refusal (export_refusal samples ancillary) ((r.preambles ≡ 0 ∷ 0 ∷ []) × (r.subframes ≡ 0 ∷ 0 ∷ []))
demand_1_export = exports

pub demand_1_export_units : (e : ExportCall) → MeetsExportUnits e → Refuses e.answer.refusal (export_table e) (ExportedNothing e)
demand_1_export_units = exports_units

pub demand_1_read_unit : (r : ReadCall) → MeetsReadUnit r → Refuses r.answer.refusal (read_table r) (EnteredNothing r)
demand_1_read_unit = reads_unit

pub demand_1_check_circuits : (octet channels frequency : ℕ) (shares allowances : List ℕ) (r : Verdict)
    → MeetsCheckCircuits octet channels frequency shares allowances r
    → Refuses (refusal_of r) (check_refusal (octet_refusal octet) channels frequency (length shares) (length allowances))
    ((answer_of r ≡ 0) × (circuit_of r ≡ 0))
demand_1_check_circuits = checks_circuits

pub demand_1_plan_circuits : (octet channels : ℕ) (shares : List ℕ) (r : ℕ) (after : List ℕ) → MeetsPlanCircuits octet channels shares r after
    → Refuses r (plan_refusal_of octet channels shares) (after ≡ shares)
demand_1_plan_circuits = plans_circuits

pub demand_1_sheet : (octets lengths rows : List ℕ) (r : Answer) (after : List ℕ) → MeetsSheet octets lengths rows r after
    → Refuses r.refusal (sheet_refusal octets lengths (length rows)) ((r.totals ≡ replicate 10 0) × (after ≡ rows))
demand_1_sheet = sheets

-- 2. "Cells, number protection, data protection and placement are document 01's for every format listed."
pub demand_2_cell : (s : SendCall) → MeetsSend s → s.answer.refusal ≡ 0 → IsDocument01's s
demand_2_cell = is_document_01's

-- "A packed cell that a receiver in the sender's settings takes unaltered gives back every sample and ancillary bit; slots with no
-- channel are zero": the latter is `unused` of demand-2-cell.
pub demand_2 : (s : SendCall) (r : ReceiveCall) → MeetsSend s → s.answer.refusal ≡ 0 → InSettings s.state r.state
    → r.cell ≡ s.written → MeetsReceive r → r.answer.refusal ≡ 0 → GivesBack s r
demand_2 = gives_back

-- Beside it, with overhead: the numbers that the cell carries are reported.
pub demand_2_numbers : (s : SendCall) (r : ReceiveCall) → MeetsSend s → s.answer.refusal ≡ 0 → InSettings s.state r.state
    → r.cell ≡ s.written → MeetsReceive r → r.answer.refusal ≡ 0 → ((S.format_now s.state).overhead_bits ≡ 0 → ⊥) → Tells s r
demand_2_numbers = tells

-- 3. "A format with overhead, cells that one sender wrote in a row, a line that drops some and spoils others (one, two or three of the
-- first eight sequencing bits and perhaps anything else), at most fourteen in a row, a fresh receiver in the sender's settings with
-- room: from the first unaltered cell to the last each sample and its ancillary bits stand in their sent place, exact and marked
-- sound; each place of a dropped or spoiled cell holds zero and is marked missing; nothing else is handed out."
--
-- Request 10: "Demand 3 also holds where a cell, as it first came, is delivered again any number of times before the next sent cell
-- arrives." A cell's fate has that number.
--
-- Request 5: "Demand 3 then holds for at most 4,294,967,295 cells sent, and also says that this number is the last unaltered cell's
-- place counted from the first unaltered one, plus 1, or 0 where no cell came unaltered."
pub demand_3 : Demand3 3 14 4294967295 MeetsSend MeetsReceive
unfolding Demand3
demand_3 st sends trips receives with_overhead row these within fair few meets came room =
    (demand_3_inside 14 st sends trips receives with_overhead row these within fair few meets came room
    (le_trans (longest_inside trips) few)
    ).comes_out

-- "Extra copies of an unaltered cell are refused 9 and leave nothing behind": the latter is demand 1's. No call of the row gets 20.
pub demand_3_copies : OverTheLine 3 14 4294967295 MeetsSend MeetsReceive
    (λ fresh trips receives. refusals receives ≡ flat_map (λ t. refusals_of t.fate) trips)
demand_3_copies st sends trips receives with_overhead row these within fair few meets came room =
    (demand_3_inside 14 st sends trips receives with_overhead row these within fair few meets came room
    (le_trans (longest_inside trips) few)
    ).refused_so

-- Request 5: "Keep it in the receiver's state, true after every call: it equals the sound cells plus the missing counts of the calls
-- made since the state was opened, and a refused call doesn't move it."
pub count_after_every_call : CountsCells MeetsReceive
count_after_every_call = counts_cells
