-- Each contract of specs/Calls follows from its function's own `ensures`, which the code is proved to meet. So Calls needs no
-- trust: a definition there that says more than the `ensures` is refused here. What is left to read is which parameter of a call
-- stands where.
-- Assumes nothing.
use mathlib.Core.List.{List}
use Prim.Native.Nat.{ℕ}
use seplogic.Ra.Ura.{Ura}
use base.Logic.{SProp, ent}
use borrow.Fn.Kinds.{ParamKind, ResultKind, Dens, res_t, ended_of, Out}
use contract.Fact.{fact_mono}
use contract.Lifetimes.{Lfts}
use contract.Monad.{Fun, fact}
use denote.Ref.{Bor}
use denote.Triple.Clauses.{Lasts, at_exit}
use denote.Triple.Entry.{Args}
use types.Logic.{Logic}
use prog.Memory.{Memory}
use prog.Routine.{Routine}
use Rattle.sender.proofs.opened.Kinds as open-sender-kinds
use Rattle.sender.proofs.opened.Reads as open-sender-reads
use Rattle.sender.proofs.send.Kinds as send-kinds
use Rattle.sender.proofs.send.Reads as send-reads
use Rattle.receiver.proofs.judged.Kinds as judged-kinds
use Rattle.receiver.proofs.judged.Reads as judged-reads
use Rattle.receiver.proofs.opened.Kinds as open-receiver-kinds
use Rattle.receiver.proofs.opened.Reads as open-receiver-reads
use Rattle.receiver.proofs.receive.Kinds as receive-kinds
use Rattle.receiver.proofs.receive.Reads as receive-reads
use Rattle.receiver.proofs.placed.Kinds as placed-kinds
use Rattle.receiver.proofs.placed.Reads as placed-reads
use Rattle.status.specs.Answers.{answered_handed, answered_step}
use Rattle.status.proofs.step.step.Kinds as step-kinds
use Rattle.status.proofs.step.step.Reads as step-reads
use Rattle.status.proofs.assembler.brought_forward.Kinds as brought-forward-kinds
use Rattle.status.proofs.assembler.brought_forward.Reads as brought-forward-reads
use Rattle.status.specs.contracts.assembler.bring_forward as bring-forward
use Rattle.status.proofs.One as status
use Rattle.cell_log.specs.Answered.{number_answered, header_answered, record_answered, kept_answered}
use Rattle.cell_log.specs.declared.reader.Reader.{Reader}
use Rattle.cell_log.proofs.read_number.Kinds as read-number-kinds
use Rattle.cell_log.proofs.read_number.Reads as read-number-reads
use Rattle.cell_log.proofs.read_header.Kinds as read-header-kinds
use Rattle.cell_log.proofs.read_header.Reads as read-header-reads
use Rattle.cell_log.proofs.read_record.Kinds as read-record-kinds
use Rattle.cell_log.proofs.read_record.Reads as read-record-reads
use Rattle.cell_log.proofs.read_cell.Kinds as read-cell-kinds
use Rattle.cell_log.proofs.read_cell.Reads as read-cell-reads
use Rattle.cell_log.proofs.next_place.Kinds as next-place-kinds
use Rattle.cell_log.proofs.next_place.Reads as next-place-reads
use Rattle.cell_log.proofs.keep.write_number.Kinds as write-number-kinds
use Rattle.cell_log.proofs.keep.write_number.Reads as write-number-reads
use Rattle.cell_log.proofs.keep.write_header.Kinds as write-header-kinds
use Rattle.cell_log.proofs.keep.write_header.Reads as write-header-reads
use Rattle.cell_log.proofs.keep.write_record.Kinds as write-record-kinds
use Rattle.cell_log.proofs.keep.write_record.Reads as write-record-reads
use Rattle.cell_log.specs.contracts.reader.Reader.record_here as record_here
use Rattle.cell_log.specs.contracts.reader.Reader.cell as cell
use Rattle.cell_log.specs.contracts.reader.Reader.past_record as past-record
use Rattle.cell_log.specs.contracts.reader.read as read
use Rattle.cell_log.proofs.One.{Answer, RecordEnsures, CellEnsures, PastEnsures, ReadEnsures}
use Rattle.presence.proofs.anything.Kinds as anything-kinds
use Rattle.presence.proofs.anything.Reads as anything-reads
use Rattle.saving.proofs.salvage.Kinds as salvage-kinds
use Rattle.saving.proofs.salvage.Reads as salvage-reads
use Rattle.cable.specs.Answered.{import_answered, export_answered}
use Rattle.cable.proofs.import_frame.Kinds as import-kinds
use Rattle.cable.proofs.import_frame.Reads as import-reads
use Rattle.cable.proofs.export_frame.Kinds as export-kinds
use Rattle.cable.proofs.export_frame.Reads as export-reads
use Rattle.units.proofs.export_units.Kinds as export-units-kinds
use Rattle.units.proofs.export_units.Reads as export-units-reads
use Rattle.units.proofs.read_unit.Kinds as read-unit-kinds
use Rattle.units.proofs.read_unit.Reads as read-unit-reads
use Rattle.refusals.specs.Refusals.{refused_by}
use Rattle.circuits.specs.Answered.{check_answered}
use Rattle.circuits.proofs.check.Kinds as check-circuits-kinds
use Rattle.circuits.proofs.check.Reads as check-circuits-reads
use Rattle.circuits.proofs.plan.Kinds as plan-circuits-kinds
use Rattle.circuits.proofs.plan.Reads as plan-circuits-reads
use Rattle.figures.specs.Answered.{answered}
use Rattle.figures.proofs.sheet.Kinds as sheet-kinds
use Rattle.figures.proofs.sheet.Reads as sheet-reads
use Rattle.line.specs.Calls.{
  MeetsSend,
  MeetsReceive,
  MeetsOpenSender,
  MeetsOpenReceiver,
  MeetsPlaced,
  MeetsJudged,
  MeetsStep,
  MeetsReadNumber,
  MeetsReadHeader,
  MeetsAnything,
  MeetsReadRecord,
  MeetsReadCell,
  MeetsNextPlace,
  MeetsWriteNumber,
  MeetsWriteHeader,
  MeetsWriteRecord,
  MeetsSalvage,
  MeetsImport,
  MeetsExport,
  MeetsExportUnits,
  MeetsReadUnit,
  MeetsCheckCircuits,
  MeetsPlanCircuits,
  MeetsSheet,
}

-- Whatever a function is called with (a), answers (x) and leaves in what was lent to it (v): where its `ensures` holds, so does
-- `Meets`. The first parameter is a.0, the second a .1 .0, the third a .1 .1 .0 and so on; what it holds afterwards stands at the same
-- place of v. ps, r and Post are those of the function's modules Kinds and Reads.
abbrev pub Ensured : {n : ℕ} (ps : List (ParamKind n)) (r : ResultKind n) → Out n ps r
    → ((κs : Lfts n) (a : Dens κs ps) → (res_t r κs).Denot → Lasts (ended_of n ps r) κs a → Type 0) → Type 0
Ensured {n} ps r Post Meets =
    (κs : Lfts n) (a : Dens κs ps) (x : (res_t r κs).Denot) (v : Lasts (ended_of n ps r) κs a)
    → Post κs a x (at_exit (ended_of n ps r) κs a v) → Meets κs a x v

pub open_sender_ensures : Ensured open-sender-kinds.ps open-sender-kinds.r open-sender-reads.Post
    (λ κs a x v. MeetsOpenSender a.0 a.1.0 a.1.1.0 a.1.1.1.0 a.1.1.1.1.0 a.1.1.1.1.1.0 x)
open_sender_ensures κs a x v p = p

pub send_ensures : Ensured send-kinds.ps send-kinds.r send-reads.Post
    (λ κs a x v. MeetsSend (record {
      state = a.0;
      indication = a.1.0;
      samples = a.1.1.0.now;
      ancillary = a.1.1.1.0.now;
      cell = a.1.1.1.1.0.now;
      answer = x;
      written = v.1.1.1.1.0;
    }))
send_ensures κs a x v p = p

pub open_receiver_ensures : Ensured open-receiver-kinds.ps open-receiver-kinds.r open-receiver-reads.Post
    (λ κs a x v. MeetsOpenReceiver a.0 a.1.0 a.1.1.0 x)
open_receiver_ensures κs a x v p = p

pub receive_ensures : Ensured receive-kinds.ps receive-kinds.r receive-reads.Post
    (λ κs a x v. MeetsReceive (record {
      state = a.0;
      cell = a.1.0.now;
      indication = a.1.1.0;
      samples = a.1.1.1.0.now;
      ancillary = a.1.1.1.1.0.now;
      marks = a.1.1.1.1.1.0.now;
      answer = x;
      samples_after = v.1.1.1.0;
      ancillary_after = v.1.1.1.1.0;
      marks_after = v.1.1.1.1.1.0;
    }))
receive_ensures κs a x v p = p

pub placed_ensures : Ensured placed-kinds.ps placed-kinds.r placed-reads.Post (λ κs a x v. MeetsPlaced a.0 x)
placed_ensures κs a x v p = p

pub judged_ensures : Ensured judged-kinds.ps judged-kinds.r judged-reads.Post
    (λ κs a x v. MeetsJudged a.0 a.1.0.now a.1.1.0 x)
judged_ensures κs a x v p = p

pub step_ensures : Ensured step-kinds.ps step-kinds.r step-reads.Post (λ κs a x v. MeetsStep a.0 a.1.0 a.1.1.0 (answered_step a.0 x))
step_ensures κs a x v p = p

pub brought_forward_ensures : Ensured brought-forward-kinds.ps brought-forward-kinds.r brought-forward-reads.Post
    (λ κs a x v. MeetsStep a.0 a.1.0 a.1.1.0 (answered_step a.0 x))
brought_forward_ensures κs a x v p = p

pub read_number_ensures : Ensured read-number-kinds.ps read-number-kinds.r read-number-reads.Post
    (λ κs a x v. MeetsReadNumber a.0.now a.1.0 (number_answered x))
read_number_ensures κs a x v p = p

pub read_header_ensures : Ensured read-header-kinds.ps read-header-kinds.r read-header-reads.Post
    (λ κs a x v. MeetsReadHeader a.0.now (header_answered x))
read_header_ensures κs a x v p = p

pub anything_ensures : Ensured anything-kinds.ps anything-kinds.r anything-reads.Post (λ κs a x v. MeetsAnything a.0.now x)
anything_ensures κs a x v p = p

pub read_record_ensures : Ensured read-record-kinds.ps read-record-kinds.r read-record-reads.Post
    (λ κs a x v. MeetsReadRecord a.0.now a.1.0 (record_answered a.1.0 x))
read_record_ensures κs a x v p = p

-- its `ensures` also says where the part stands in memory
pub read_cell_ensures : Ensured read-cell-kinds.ps read-cell-kinds.r read-cell-reads.Post
    (λ κs a x v. MeetsReadCell a.0.now a.1.0 x.now)
read_cell_ensures κs a x v p = p.0

pub next_place_ensures : Ensured next-place-kinds.ps next-place-kinds.r next-place-reads.Post
    (λ κs a x v. MeetsNextPlace a.0.now a.1.0 x)
next_place_ensures κs a x v p = p

pub write_number_ensures : Ensured write-number-kinds.ps write-number-kinds.r write-number-reads.Post
    (λ κs a x v. MeetsWriteNumber a.0.now a.1.0 a.1.1.0 (kept_answered x) v.0)
write_number_ensures κs a x v p = p

pub write_header_ensures : Ensured write-header-kinds.ps write-header-kinds.r write-header-reads.Post
    (λ κs a x v. MeetsWriteHeader a.0.now a.1.0 a.1.1.0 a.1.1.1.0 (kept_answered x) v.0)
write_header_ensures κs a x v p = p

pub write_record_ensures : Ensured write-record-kinds.ps write-record-kinds.r write-record-reads.Post
    (λ κs a x v. MeetsWriteRecord a.0.now a.1.0 a.1.1.0 a.1.1.1.0.now (kept_answered x) v.0)
write_record_ensures κs a x v p = p

pub salvage_ensures : Ensured salvage-kinds.ps salvage-kinds.r salvage-reads.Post
    (λ κs a x v. MeetsSalvage a.0.now a.1.0.now a.1.1.0.now x v.1.0 v.1.1.0)
salvage_ensures κs a x v p = p

pub import_ensures : Ensured import-kinds.ps import-kinds.r import-reads.Post (λ κs a x v. MeetsImport a.0.preambles a.0.subframes (import_answered x))
import_ensures κs a x v p = p

pub export_ensures : Ensured export-kinds.ps export-kinds.r export-reads.Post (λ κs a x v. MeetsExport a.0.samples a.0.ancillary (export_answered x))
export_ensures κs a x v p = p

-- The `ensures` of five functions are stated over their clauses, and not by Kinds and Reads.
module _ {M : Type 1} {𝓤 : Ura M} (𝓛 : Logic 𝓤) (mem : Memory → SProp 𝓤) (run : Routine → Fun 𝓤) (κs : Lfts 1) where
  -- the block that was lent and what it is afterwards
  pub bring_forward_ensures : (a : Args bring-forward.signature κs) (x : status.Answer) (v : Lasts bring-forward.ended κs a)
      → ent 𝓤 (status.Ensures 𝓛 mem run κs a x v)
      (fact 𝓤 (MeetsStep a.0.now a.1.0 a.1.1.0 (record { block = v.0; handed = answered_handed x })))
  bring_forward_ensures a x v = fact_mono 𝓤 _ _ (λ p i. record { block = p.1 i; handed = p.0 i })

  pub record_here_ensures : (a : Args record_here.signature κs) (x : Answer)
      → ent 𝓤 (RecordEnsures 𝓛 mem run κs a x) (fact 𝓤 (MeetsReadRecord a.0.log.now a.0.place (record_answered a.0.place x)))
  record_here_ensures a x = fact_mono 𝓤 _ _ (λ p. p)

  pub cell_ensures : (a : Args cell.signature κs) (x : Bor (List ℕ))
      → ent 𝓤 (CellEnsures 𝓛 mem run κs a x) (fact 𝓤 (MeetsReadCell a.0.log.now a.0.place x.now))
  cell_ensures a x = fact_mono 𝓤 _ _ (λ p. p.0)

  pub past_record_ensures : (a : Args past-record.signature κs) (x : Reader)
      → ent 𝓤 (PastEnsures 𝓛 mem run κs a x) (fact 𝓤 (MeetsNextPlace a.0.log.now a.0.place x.place))
  past_record_ensures a x = fact_mono 𝓤 _ _ (λ p. p.1)

  pub read_ensures : (a : Args read.signature κs) (x : Answer)
      → ent 𝓤 (ReadEnsures 𝓛 mem run κs a x) (fact 𝓤 (MeetsReadRecord a.0.now a.1.0 (record_answered a.1.0 x)))
  read_ensures a x = fact_mono 𝓤 _ _ (λ p. p)

pub export_units_ensures : Ensured export-units-kinds.ps export-units-kinds.r export-units-reads.Post
    (λ κs a x v. MeetsExportUnits (record {
      octet = a.0;
      channels = a.1.0;
      size = a.1.1.0;
      samples = a.1.1.1.0.now;
      ancillary = a.1.1.1.1.0.now;
      out = a.1.1.1.1.1.0.now;
      answer = x;
      out_after = v.1.1.1.1.1.0;
    }))
export_units_ensures κs a x v p = p

pub read_unit_ensures : Ensured read-unit-kinds.ps read-unit-kinds.r read-unit-reads.Post
    (λ κs a x v. MeetsReadUnit (record {
      octet = a.0;
      channels = a.1.0;
      unit = a.1.1.0.now;
      samples = a.1.1.1.0.now;
      ancillary = a.1.1.1.1.0.now;
      answer = x;
      samples_after = v.1.1.1.0;
      ancillary_after = v.1.1.1.1.0;
    }))
read_unit_ensures κs a x v p = p

pub check_circuits_ensures : Ensured check-circuits-kinds.ps check-circuits-kinds.r check-circuits-reads.Post
    (λ κs a x v. MeetsCheckCircuits a.0 a.1.0 a.1.1.0 a.1.1.1.0.now a.1.1.1.1.0.now (check_answered x))
check_circuits_ensures κs a x v p = p

pub plan_circuits_ensures : Ensured plan-circuits-kinds.ps plan-circuits-kinds.r plan-circuits-reads.Post
    (λ κs a x v. MeetsPlanCircuits a.0 a.1.0 a.1.1.0.now (refused_by x) v.1.1.0)
plan_circuits_ensures κs a x v p = p

pub sheet_ensures : Ensured sheet-kinds.ps sheet-kinds.r sheet-reads.Post
    (λ κs a x v. MeetsSheet a.0.now a.1.0.now a.1.1.0.now (answered x) v.1.1.0)
sheet_ensures κs a x v p = p
