-- The public calls, each with what it leaves, and what it is that a call meets its function's contract. The code is proved to meet the
-- `ensures` of each function; proofs/Ensures proves that every call that meets the `ensures` meets the definition here; the demands are
-- proved of every call that meets the definition. So the demands hold of the code. A definition that says more than the `ensures` is
-- refused in proofs/Ensures, one that says too little for the demands in proofs/Demands. docs/PROMISES.md says how many lines there are
-- to read to trust the demands, proofs/Ensures with them, and how many to know what every call and program answers.
-- Assumes nothing.
use Rattle.std.specs.Prelude.{Bool, List, ◌≡◌, ℕ}
use Rattle.sender.specs.declared.Sender.{Sender}
use Rattle.sender.specs.declared.Ready as SR
use Rattle.sender.specs.declared.Sent.{Sent}
use Rattle.sender.specs.Sender as S
use Rattle.receiver.specs.declared.Receiver.{Receiver}
use Rattle.receiver.specs.declared.Ready.{Ready}
use Rattle.receiver.specs.declared.Received.{Received}
use Rattle.receiver.specs.Receiver as R
use Rattle.status.specs.declared.step.Block.{Block}
use Rattle.status.specs.Step.{Stepped, step_of}
use Rattle.cell_log.specs.Answers.{Number, Header, Record, Kept}
use Rattle.cell_log.specs.Numbers.{number_at, groups_of}
use Rattle.cell_log.specs.Records.{header_of, record_at, cell_at, place_after}
use Rattle.cell_log.specs.Written.{Keeps, number_refusal, header_octets, header_refused_of, record_octets, record_refusal}
use Rattle.presence.specs.declared.Presence.{Presence}
use Rattle.presence.specs.Presence.{presence_of}
use Rattle.saving.specs.declared.Salvaged.{Salvaged}
use Rattle.saving.specs.Salvage.{Salvages}
use Rattle.cable.specs.Frames.{Imported, Exported, import_of, export_of}
use Rattle.units.specs.Back as U
use Rattle.units.specs.Back.{ExportCall, ReadCall}
use Rattle.circuits.specs.Circuits.{Verdict, checked_of, Plans}
use Rattle.figures.specs.Sheets.{Answer, Sheets}

-- a call of `send` and what it left
pub record SendCall : Type 0 where
  pub state : Sender
  pub indication : Bool
  pub samples : List ℕ
  pub ancillary : List ℕ
  pub cell : List ℕ
  pub answer : Sent
  pub written : List ℕ

abbrev pub MeetsSend : SendCall → Type 0
MeetsSend c = S.Sends c.state c.indication c.samples c.ancillary c.cell c.answer c.written

-- a call of `receive` and what it left
pub record ReceiveCall : Type 0 where
  pub state : Receiver
  pub cell : List ℕ
  pub indication : Bool
  pub samples : List ℕ
  pub ancillary : List ℕ
  pub marks : List ℕ
  pub answer : Received
  pub samples_after : List ℕ
  pub ancillary_after : List ℕ
  pub marks_after : List ℕ

abbrev pub MeetsReceive : ReceiveCall → Type 0
MeetsReceive c =
    R.Receives c.state c.cell c.indication c.samples c.ancillary c.marks
    c.answer c.samples_after c.ancillary_after c.marks_after

-- `judged`, which is `receive` with 720 entries of room and no runs
abbrev pub MeetsJudged : Receiver → List ℕ → Bool → Received → Type 0
MeetsJudged state cell indication r = r ≡ R.judged_of state cell indication

-- `sender::opened` and `receiver::opened`
abbrev pub MeetsOpenSender : ℕ → ℕ → ℕ → ℕ → Bool → ℕ → SR.Ready → Type 0
MeetsOpenSender octet channels order number wanted second r = r ≡ S.opened_of octet channels order number wanted second

abbrev pub MeetsOpenReceiver : ℕ → ℕ → ℕ → Ready → Type 0
MeetsOpenReceiver octet channels order r = r ≡ R.opened_of octet channels order

-- `receiver::placed`
abbrev pub MeetsPlaced : Receiver → ℕ → Type 0
MeetsPlaced st r = r ≡ st.count

-- `status::step`, and the two calls that bring a block forward by it: `bring_forward`, where it is lent, and `brought_forward`
abbrev pub MeetsStep : Block → ℕ → ℕ → Stepped → Type 0
MeetsStep block ancillary mark r = r ≡ step_of block ancillary mark

-- reading a log: `read_number`, `read_header`, `read_record`, `read_cell`, `next_place`; the reader's `record_here` and `read` are as
-- `read_record`, its `cell` as `read_cell`, its `past_record` as `next_place`
abbrev pub MeetsReadNumber : List ℕ → ℕ → Number → Type 0
MeetsReadNumber log place r = r ≡ number_at log place

abbrev pub MeetsReadHeader : List ℕ → Header → Type 0
MeetsReadHeader log r = r ≡ header_of log

abbrev pub MeetsReadRecord : List ℕ → ℕ → Record → Type 0
MeetsReadRecord log place r = r ≡ record_at log place

abbrev pub MeetsReadCell : List ℕ → ℕ → List ℕ → Type 0
MeetsReadCell log place part = part ≡ cell_at log place

abbrev pub MeetsNextPlace : List ℕ → ℕ → ℕ → Type 0
MeetsNextPlace log place next = next ≡ place_after log place

-- `anything`
abbrev pub MeetsAnything : List ℕ → Presence → Type 0
MeetsAnything log r = r ≡ presence_of log

-- writing a log: `write_number`, `write_header`, `write_record`
abbrev pub MeetsWriteNumber : List ℕ → ℕ → ℕ → Kept → List ℕ → Type 0
MeetsWriteNumber log place value r after = Keeps (number_refusal log place value) place (groups_of 3 value) log r after

abbrev pub MeetsWriteHeader : List ℕ → ℕ → ℕ → ℕ → Kept → List ℕ → Type 0
MeetsWriteHeader log octet channels order r after =
    Keeps (header_refused_of log octet channels order) 0 (header_octets octet channels order) log r after

abbrev pub MeetsWriteRecord : List ℕ → ℕ → Bool → List ℕ → Kept → List ℕ → Type 0
MeetsWriteRecord log place indication cell r after = Keeps (record_refusal log place cell) place (record_octets indication cell) log r after

-- `salvage`
abbrev pub MeetsSalvage : List ℕ → List ℕ → List ℕ → Salvaged → List ℕ → List ℕ → Type 0
MeetsSalvage log out list r out_after list_after = Salvages log out list r out_after list_after

-- `import_frame` and `export_frame`
abbrev pub MeetsImport : List ℕ → List ℕ → Imported → Type 0
MeetsImport preambles subframes r = r ≡ import_of preambles subframes

abbrev pub MeetsExport : List ℕ → List ℕ → Exported → Type 0
MeetsExport samples ancillary r = r ≡ export_of samples ancillary

-- `export_units` and `read_unit`
abbrev pub MeetsExportUnits : ExportCall → Type 0
MeetsExportUnits e = U.MeetsExport e

abbrev pub MeetsReadUnit : ReadCall → Type 0
MeetsReadUnit r = U.MeetsRead r

-- `check` and `plan`, of channels shared out over circuits
abbrev pub MeetsCheckCircuits : ℕ → ℕ → ℕ → List ℕ → List ℕ → Verdict → Type 0
MeetsCheckCircuits octet channels frequency shares allowances r = r ≡ checked_of octet channels frequency shares allowances

abbrev pub MeetsPlanCircuits : ℕ → ℕ → List ℕ → ℕ → List ℕ → Type 0
MeetsPlanCircuits octet channels shares r after = Plans octet channels shares r after

-- `sheet`, of many logs
abbrev pub MeetsSheet : List ℕ → List ℕ → List ℕ → Answer → List ℕ → Type 0
MeetsSheet octets lengths rows r after = Sheets octets lengths rows r after
