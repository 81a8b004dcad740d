-- A refusal is the table's, and then nothing was changed and nothing else is told: each public call beside `send` and `receive`.
-- Assumes nothing.
use mathlib.Core.Bool.{Bool, false, cond, ◌||◌}
use mathlib.Core.List.{List, [], ◌∷◌}
use mathlib.Core.Path.{◌≡◌, refl, sym, ◌∙◌, ap}
use Prim.Native.Nat.{ℕ, ◌+◌}
use borrow.Author.Tests.{eqb-true}
use lib.Dec.{eqb, leb, ltb}
use lib.ListN.{length, get_or, replicate}
use Rattle.runs.proofs.Laws.{split}
use Rattle.formats.specs.Formats.{settings_refusal}
use Rattle.sender.specs.declared.Ready as SR
use Rattle.sender.specs.Sender as S
use Rattle.receiver.specs.declared.Ready.{Ready}
use Rattle.receiver.specs.declared.Receiver.{Receiver}
use Rattle.receiver.specs.declared.Received.{Received}
use Rattle.receiver.specs.Receiver as R
use Rattle.status.specs.declared.step.Block.{Block}
use Rattle.status.specs.Step.{Stepped, is_refused}
use Rattle.status.proofs.Refused.{step_refusal_lem, refused_step}
use Rattle.cell_log.specs.Answers.{Number, Header, Record, Kept}
use Rattle.cell_log.specs.Numbers.{is_cut, is_long, is_padded, number_at}
use Rattle.cell_log.specs.Records.{header_refusal, header_of_numbers, header_of, second_number, third_number, record_at}
use Rattle.cell_log.specs.Written.{Keeps}
use Rattle.cell_log.proofs.Refused.{refused_number, refused_header, refused_record, refused_cell, refused_place, keeps_refusal, refused_keeps}
use Rattle.presence.specs.declared.Presence.{Presence}
use Rattle.presence.proofs.Theorems.{presence_refusal, presence_nothing}
use Rattle.saving.specs.declared.Salvaged.{Salvaged}
use Rattle.saving.specs.Salvage.{salvage_refusal}
use Rattle.saving.proofs.Refusals as saving
use Rattle.cable.specs.Frames.{Imported, Exported, import_refusal, export_refusal}
use Rattle.cable.proofs.Demand1 as cable
use Rattle.units.specs.Back.{ExportCall, export_table, ExportedNothing, ReadCall, read_table, EnteredNothing}
use Rattle.units.proofs.Demand1 as units
use Rattle.circuits.specs.Circuits.{Verdict, refusal_of, answer_of, circuit_of, octet_refusal, check_refusal, plan_refusal_of}
use Rattle.circuits.proofs.Demand1 as circuits
use Rattle.figures.specs.Sheets.{Answer, sheet_refusal}
use Rattle.figures.proofs.Demand1 as figures
use Rattle.line.specs.Calls.{
  MeetsOpenSender,
  MeetsOpenReceiver,
  MeetsJudged,
  MeetsStep,
  MeetsReadNumber,
  MeetsReadHeader,
  MeetsAnything,
  MeetsReadRecord,
  MeetsReadCell,
  MeetsNextPlace,
  MeetsSalvage,
  MeetsImport,
  MeetsExport,
  MeetsExportUnits,
  MeetsReadUnit,
  MeetsCheckCircuits,
  MeetsPlanCircuits,
  MeetsSheet,
}
use Rattle.line.specs.Demands.{Refuses, JudgedNothing, SteppedNothing, record_table, ReadNothing}

-- an answer that is one of two, by whether the table refuses
opening : {A : Type 0} (table : ℕ) (number : A → ℕ) (Nothing : A → Type 0) (taken refused : A) → number taken ≡ 0 → number refused ≡ table
    → Nothing refused → Refuses (number (cond (eqb table 0) taken refused)) table (Nothing (cond (eqb table 0) taken refused))
opening table number Nothing taken refused zero same nothing =
    split (eqb table 0)
    (λ e. rw e (record { by_the_table = zero ∙ sym (eqb-true table 0 e); then_nothing = λ some. absurd (some zero) }))
    (λ e. rw e (record { by_the_table = same; then_nothing = λ some. nothing }))

pub opens_sender : (octet channels order number : ℕ) (wanted : Bool) (second : ℕ) (r : SR.Ready)
    → MeetsOpenSender octet channels order number wanted second r
    → Refuses r.refusal (S.state_refusal (S.open_state octet channels order number wanted second)) (r.state ≡ S.zero_state)
unfolding S.opened_of
opens_sender octet channels order number wanted second r meets =
    rw meets
    (opening (S.state_refusal (S.open_state octet channels order number wanted second)) (λ (x : SR.Ready). x.refusal)
    (λ (x : SR.Ready). x.state ≡ S.zero_state) _ _ refl refl refl)

pub opens_receiver : (octet channels order : ℕ) (r : Ready) → MeetsOpenReceiver octet channels order r
    → Refuses r.refusal (settings_refusal octet channels order) (r.state ≡ R.zero_state)
unfolding R.opened_of
opens_receiver octet channels order r meets =
    rw meets
    (opening (settings_refusal octet channels order) (λ (x : Ready). x.refusal) (λ (x : Ready). x.state ≡ R.zero_state) _ _ refl refl refl)

pub judges : (state : Receiver) (cell : List ℕ) (indication : Bool) (r : Received) → MeetsJudged state cell indication r
    → Refuses r.refusal (R.receive_refusal state cell indication 720 720 720) (JudgedNothing state r)
unfolding R.judged_of R.received_of
judges state cell indication r meets =
    rw meets
    (opening (R.receive_refusal state cell indication 720 720 720) (λ (x : Received). x.refusal) (λ (x : Received). JudgedNothing state x)
    _ _ refl refl
    (record { state_as_given = refl; none_missing = refl; no_number = refl; no_second = refl; no_indication = refl }))

pub steps : (block : Block) (ancillary mark : ℕ) (r : Stepped) → MeetsStep block ancillary mark r
    → Refuses r.handed.refusal (cond (is_refused block.bits ancillary mark) 14 0) (SteppedNothing block r)
steps block ancillary mark r meets =
    rw meets
    (record {
      by_the_table = step_refusal_lem block ancillary mark;
      then_nothing =
          λ some.
          let none = refused_step block ancillary mark some in
          record { block_as_lent = none.0; zeros_out = none.2; neither = none.1 };
    })

-- the refusals of a log's numbers and of its header
abbrev number_table : List ℕ → ℕ → ℕ
number_table log place = cond (is_cut log place || (is_long log place || is_padded log place)) 11 0

number_table_lem : (log : List ℕ) (place : ℕ) → (number_at log place).refusal ≡ number_table log place
unfolding number_at
number_table_lem log place = split (is_cut log place || (is_long log place || is_padded log place)) (λ e. rw e) (λ e. rw e)

pub reads_number : (log : List ℕ) (place : ℕ) (r : Number) → MeetsReadNumber log place r
    → Refuses r.refusal (number_table log place) ((r.value ≡ 0) × (r.next ≡ 0))
reads_number log place r meets =
    rw meets
    (record {
      by_the_table = number_table_lem log place;
      then_nothing = λ some. let none = refused_number log place some in (none.1, none.2);
    })

abbrev header_table : List ℕ → ℕ
header_table log = header_refusal (number_at log 0) (second_number log) (third_number log)

header_table_lem : (log : List ℕ) → (header_of log).refusal ≡ header_table log
unfolding header_of header_of_numbers
header_table_lem log = split (eqb (header_table log) 0) (λ e. rw e (sym (eqb-true (header_table log) 0 e))) (λ e. rw e)

pub reads_header : (log : List ℕ) (r : Header) → MeetsReadHeader log r
    → Refuses r.refusal (header_table log) ((r.place ≡ 0) × (r.format ≡ 0) × (r.channels ≡ 0) × (r.order ≡ 0))
reads_header log r meets = rw meets (record { by_the_table = header_table_lem log; then_nothing = refused_header log })

-- asking whether there is anything in a log
pub asks_anything : (log : List ℕ) (r : Presence) → MeetsAnything log r
    → Refuses r.refusal (header_table log) ((r.found ≡ false) × (r.number ≡ 0))
asks_anything log r meets =
    rw meets (record { by_the_table = presence_refusal log ∙ header_table_lem log; then_nothing = presence_nothing log })

-- the refusal of a record
record_table_lem : (log : List ℕ) (place : ℕ) → (record_at log place).refusal ≡ record_table log place
unfolding record_at
record_table_lem log place =
    split (leb (length log) place)
    (λ e. rw e)
    (λ e.
    split (ltb 1 (get_or log place 0))
    (λ f. rw (e, f))
    (λ f. split (ltb (length log) (place + 49)) (λ g. rw (e, f, g)) (λ g. rw (e, f, g))))

pub reads_record : (log : List ℕ) (place : ℕ) (r : Record) → MeetsReadRecord log place r
    → Refuses r.refusal (record_table log place) (ReadNothing r)
reads_record log place r meets =
    rw meets
    (record {
      by_the_table = record_table_lem log place;
      then_nothing =
          λ some.
          let none = refused_record log place some in
          record { no_cell = none.0; no_indication = none.1; no_start = none.2; no_next = none.3 };
    })

pub reads_cell : (log : List ℕ) (place : ℕ) (part : List ℕ) → MeetsReadCell log place part → (record_table log place ≡ 0 → ⊥) → part ≡ []
reads_cell log place part meets some = meets ∙ refused_cell log place (λ none. some (sym (record_table_lem log place) ∙ none))

pub next_stays : (log : List ℕ) (place next : ℕ) → MeetsNextPlace log place next → (record_table log place ≡ 0 → ⊥) → next ≡ place
next_stays log place next meets some = meets ∙ refused_place log place (λ none. some (sym (record_table_lem log place) ∙ none))

pub keeps : {table place : ℕ} {octets log after : List ℕ} {r : Kept} → Keeps table place octets log r after
    → Refuses r.refusal table ((r.next ≡ 0) × (after ≡ log))
keeps meets =
    record { by_the_table = keeps_refusal meets; then_nothing = λ some. refused_keeps meets (λ none. some (keeps_refusal meets ∙ none)) }

pub salvages : (log out list : List ℕ) (r : Salvaged) (out₁ list₁ : List ℕ) → MeetsSalvage log out list r out₁ list₁
    → Refuses r.refusal (salvage_refusal log (length out) (length list))
    ((r.octets ≡ 0) × (r.left_out ≡ 0) × (r.cut ≡ 0) × (out₁ ≡ out) × (list₁ ≡ list))
salvages log out list r out₁ list₁ meets =
    record {
      by_the_table = saving.refused_by_lem meets;
      then_nothing =
          λ some.
          let counts = saving.counts_none meets some in
          (counts.0, counts.1, counts.2, saving.out_stays meets some, saving.list_stays meets some);
    }

pub imports : (preambles subframes : List ℕ) (r : Imported) → MeetsImport preambles subframes r
    → Refuses r.refusal (import_refusal preambles subframes) ((r.samples ≡ 0 ∷ 0 ∷ []) × (r.ancillary ≡ 0 ∷ 0 ∷ []))
imports preambles subframes r meets =
    let one = cable.demand_1_import preambles subframes r meets in
    record {
      by_the_table = one.0;
      then_nothing =
          λ some. (ap (λ (x : Imported). x.samples) (one.1 some), ap (λ (x : Imported). x.ancillary) (one.1 some));
    }

pub exports : (samples ancillary : List ℕ) (r : Exported) → MeetsExport samples ancillary r
    → Refuses r.refusal (export_refusal samples ancillary) ((r.preambles ≡ 0 ∷ 0 ∷ []) × (r.subframes ≡ 0 ∷ 0 ∷ []))
exports samples ancillary r meets =
    let one = cable.demand_1_export samples ancillary r meets in
    record {
      by_the_table = one.0;
      then_nothing =
          λ some. (ap (λ (x : Exported). x.preambles) (one.1 some), ap (λ (x : Exported). x.subframes) (one.1 some));
    }

pub exports_units : (e : ExportCall) → MeetsExportUnits e → Refuses e.answer.refusal (export_table e) (ExportedNothing e)
exports_units e meets = let one = units.demand_1_export e meets in record { by_the_table = one.0; then_nothing = one.1 }

pub reads_unit : (r : ReadCall) → MeetsReadUnit r → Refuses r.answer.refusal (read_table r) (EnteredNothing r)
reads_unit r meets = let one = units.demand_1_read r meets in record { by_the_table = one.0; then_nothing = one.1 }

pub checks_circuits : (octet channels frequency : ℕ) (shares allowances : List ℕ) (r : Verdict)
    → MeetsCheckCircuits octet channels frequency shares allowances r
    → Refuses (refusal_of r) (check_refusal (octet_refusal octet) channels frequency (length shares) (length allowances))
    ((answer_of r ≡ 0) × (circuit_of r ≡ 0))
checks_circuits octet channels frequency shares allowances r meets =
    let one = circuits.demand_1_check octet channels frequency shares allowances r meets in
    record { by_the_table = one.0; then_nothing = λ some. (ap answer_of (one.1 some), ap circuit_of (one.1 some)) }

pub plans_circuits : (octet channels : ℕ) (shares : List ℕ) (r : ℕ) (after : List ℕ) → MeetsPlanCircuits octet channels shares r after
    → Refuses r (plan_refusal_of octet channels shares) (after ≡ shares)
plans_circuits octet channels shares r after meets =
    let one = circuits.demand_1_plan octet channels shares r after meets in record { by_the_table = one.0; then_nothing = one.1 }

pub sheets : (octets lengths rows : List ℕ) (r : Answer) (after : List ℕ) → MeetsSheet octets lengths rows r after
    → Refuses r.refusal (sheet_refusal octets lengths (length rows)) ((r.totals ≡ replicate 10 0) × (after ≡ rows))
sheets octets lengths rows r after meets =
    let one = figures.demand_1_sheet octets lengths rows r after meets in record { by_the_table = one.0; then_nothing = one.1 }
