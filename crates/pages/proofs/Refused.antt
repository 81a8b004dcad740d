-- A refused C call leaves what was lent and reports zeros: demand 1 of the functions below, carried over to the face.
-- Assumes nothing.
use mathlib.Core.Bool.{Bool, cond}
use mathlib.Core.List.{List, [], ◌∷◌}
use mathlib.Core.Path.{◌≡◌, refl, ◌∙◌, ap, ap₂}
use Prim.Native.Nat.{ℕ}
use native.Mathlib.Omega.{arith}
use borrow.Author.Tests.{ne_eqb}
use lib.Dec.{eqb}
use lib.ListN.{length, get_or, drop, replicate}
use Rattle.runs.specs.Runs.{over}
use Rattle.runs.proofs.Laws.{split}
use Rattle.formats.specs.Formats.{is_listed, format_of, settings_refusal}
use Rattle.sender.specs.Sender as S
use Rattle.receiver.specs.Receiver as R
use Rattle.status.specs.Step.{is_refused}
use Rattle.status.specs.Run.{Ran}
use Rattle.reading.specs.Heard.{Heard}
use Rattle.hearing.specs.Receiving.{call_refusal, samples_of, ancillary_of, marks_of, column_given}
use Rattle.sender.specs.Many.{batch_refusal}
use Rattle.cell_log.specs.Numbers.{number_at}
use Rattle.cell_log.specs.Records.{header_refusal, second_number, third_number, header_of, record_at}
use Rattle.cell_log.specs.Written.{Keeps}
use Rattle.presence.specs.Presence.{presence_of}
use Rattle.saving.specs.Salvage.{salvage_refusal}
use Rattle.figures.specs.Sheets.{sheet_refusal}
use Rattle.cable.specs.Frames.{import_refusal, export_refusal}
use Rattle.units.specs.Units as U
use Rattle.circuits.specs.Circuits.{octet_refusal, check_refusal, plan_refusal_of, Plans}
use Rattle.slips.specs.Watch.{step_refusal}
use Rattle.slips.proofs.Demand1 as slips
use Rattle.rimesatchel.specs.Batches.{judged_numbers, JudgedOctets, batch_numbers, ReceivedLogOctets}
use Rattle.rimesatchel.specs.Many as Many
use Rattle.rimesatchel.specs.Boxes.{
  yes_no,
  sender_of,
  sender_octets,
  count_octets,
  receiver_of,
  receiver_octets,
  report_octets,
  OpenedSender,
  OpenedReceiver,
  SentOctets,
  ReceivedOctets,
}
use Rattle.rimesatchel.specs.Contents.{presence_numbers}
use Rattle.rimesatchel.specs.Facts.{format_numbers, format_refusal}
use Rattle.rimesatchel.specs.Frames.{ImportedFrame, ExportedFrame}
use Rattle.rimesatchel.specs.Kept.{kept_as}
use Rattle.rimesatchel.specs.Logs.{header_numbers, record_numbers}
use Rattle.rimesatchel.specs.Network.{ExportedUnits, ReadUnit}
use Rattle.rimesatchel.specs.Plans.{CheckedPlan}
use Rattle.rimesatchel.specs.Salvages.{SalvagedLog}
use Rattle.rimesatchel.specs.Sheets.{DrawsUp}
use Rattle.rimesatchel.specs.Statuses.{block_of, SteppedOctets, RanOctets}
use Rattle.rimesatchel.specs.Watches.{watch_of, slipped_of, SlippedOctets}
use Rattle.management.specs.Controller.{Takes}
use Rattle.management.specs.Demands.{record_refusal, equipment_refusal, controller_refusal}
use Rattle.management.specs.Equipment.{Leaves, equipment_of}
use Rattle.management.specs.Packing.{Sets, Packs}
use Rattle.management.proofs.Demands as management
use Rattle.line.specs.Calls.{SendCall, ReceiveCall}
use Rattle.line.specs.Demands.{Refuses, record_table}
use Rattle.line.proofs.Demands as line
use Rattle.line.proofs.Refused as laws
use Rattle.pages.specs.Papers.{run_refusal}
use Rattle.pages.proofs.Ran.{
  run_refusal_lem,
  run_refused,
  judge_refusal,
  judge_refused,
  none_reported,
  receive_log_refusal,
  receive_log_refused,
  none_received,
  send_log_refusal,
  send_log_refused,
  none_sent,
}

-- a refusal that is another one's, and leaves nothing where the other does
as_said : {refusal said table : ℕ} {Said Nothing : Type 0} → refusal ≡ said → Refuses said table Said
    → ((said ≡ 0 → ⊥) → Said → Nothing) → Refuses refusal table Nothing
as_said {said = said} same one nothing =
    record {
      by_the_table = same ∙ one.by_the_table;
      then_nothing =
          λ some.
          let so : said ≡ 0 → ⊥ = λ none. some (same ∙ none) in
          nothing so (one.then_nothing so);
    }

-- what is written only where nothing is refused
stays : (refusal : ℕ) (new : List ℕ) {old left : List ℕ} → (refusal ≡ 0 → ⊥) → left ≡ cond (eqb refusal 0) new old → left ≡ old
stays refusal new some left = left ∙ rw (ne_eqb refusal 0 some)

pub opens_sender : {format channels order number : ℕ} {wanted : Bool} {second refusal : ℕ} {state : List ℕ}
    → OpenedSender format channels order number wanted second refusal state
    → Refuses refusal (S.state_refusal (S.open_state format channels order number wanted second)) (state ≡ replicate 7 0)
unfolding sender_octets yes_no
opens_sender {format} {channels} {order} {number} {wanted} {second} p =
    as_said p.refused (line.demand_1_open_sender format channels order number wanted second _ refl)
    (λ some zeros. p.leaves ∙ ap sender_octets zeros)

pub opens_receiver : {format channels order refusal : ℕ} {state : List ℕ} → OpenedReceiver format channels order refusal state
    → Refuses refusal (settings_refusal format channels order) (state ≡ replicate 9 0)
unfolding receiver_octets yes_no count_octets
opens_receiver {format} {channels} {order} p =
    as_said p.refused (line.demand_1_open_receiver format channels order _ refl) (λ some zeros. p.leaves ∙ ap receiver_octets zeros)

pub sends : {state : List ℕ} {indication : Bool} {samples ancillary cell : List ℕ} {refusal : ℕ} {left written : List ℕ}
    → SentOctets state indication samples ancillary cell refusal left written
    → Refuses refusal (S.send_refusal (sender_of state) indication samples ancillary (length cell)) ((left ≡ state) × (written ≡ cell))
sends {state} {indication} {samples} {ancillary} {cell} {written = written} p =
    let call : SendCall =
    record {
      state = sender_of state;
      indication = indication;
      samples = samples;
      ancillary = ancillary;
      cell = cell;
      answer = S.sent_of (sender_of state) indication samples ancillary (length cell);
      written = written;
    } in
    as_said p.refused (line.demand_1_send call (record { answered = refl; cell_after_lem = p.writes }))
    (λ some none. (stays _ _ some p.leaves, none.cell_as_lent))

pub receives : {state cell : List ℕ} {indication : Bool} {samples ancillary marks : List ℕ} {refusal : ℕ}
    {left samples₁ ancillary₁ marks₁ report : List ℕ}
    → ReceivedOctets state cell indication samples ancillary marks refusal left samples₁ ancillary₁ marks₁ report
    → Refuses refusal (R.receive_refusal (receiver_of state) cell indication (length samples) (length ancillary) (length marks))
    ((left ≡ state) × (samples₁ ≡ samples) × (ancillary₁ ≡ ancillary) × (marks₁ ≡ marks) × (report ≡ replicate 4 0))
unfolding report_octets yes_no
receives {state} {cell} {indication} {samples} {ancillary} {marks} {samples₁ = samples₁} {ancillary₁ = ancillary₁} {marks₁ = marks₁} p =
    let call : ReceiveCall =
    record {
      state = receiver_of state;
      cell = cell;
      indication = indication;
      samples = samples;
      ancillary = ancillary;
      marks = marks;
      answer = R.received_of (receiver_of state) cell indication (length samples) (length ancillary) (length marks);
      samples_after = samples₁;
      ancillary_after = ancillary₁;
      marks_after = marks₁;
    } in
    as_said p.refused (line.demand_1_receive call p.receives)
    (λ some none.
    let said = none.nothing_answered in (
      stays _ _ some p.leaves,
      none.samples_as_lent,
      none.ancillary_as_lent,
      none.marks_as_lent,
      p.reports
          ∙ (λ i. said.none_missing i ∷ said.no_number i ∷ said.no_second i ∷ yes_no (said.no_indication i) ∷ []),
    ))

-- a list that isn't empty is its first entry and the rest
first_rest : (xs : List ℕ) → (length xs ≡ 0 → ⊥) → get_or xs 0 0 ∷ drop 1 xs ≡ xs
first_rest [] some = absurd (some refl)
first_rest (x ∷ xs) some = refl

pub steps : {block : List ℕ} {ancillary mark refusal : ℕ} {left out : List ℕ} → SteppedOctets block ancillary mark refusal left out
    → Refuses refusal (cond (is_refused (get_or block 0 0) ancillary mark) 14 0)
    ((length block ≡ 25 → left ≡ block) × (out ≡ replicate 25 0))
steps {block} {ancillary} {mark} p =
    as_said p.refused (line.demand_1_status (record { bits = get_or block 0 0; octets = drop 1 block }) ancillary mark _ refl)
    (λ some none. (
      λ long. p.leaves ∙ (λ i. (none.block_as_lent i).bits ∷ (none.block_as_lent i).octets) ∙ first_rest block (λ none. omega (arith, long, none)),
      p.hands ∙ ap₂ (λ (answer : ℕ) (octets : List ℕ). answer ∷ octets) none.neither none.zeros_out,
    ))

pub runs : {block ancillary marks : List ℕ} {from step refusal : ℕ} {left out : List ℕ} {next : ℕ}
    → RanOctets block ancillary marks from step refusal left out next
    → Refuses refusal (run_refusal block ancillary marks from step) ((length block ≡ 25 → left ≡ block) × (out ≡ replicate 25 0) × (next ≡ 0))
runs {block} {ancillary} {marks} {from} {step} p =
    record {
      by_the_table = p.refused ∙ run_refusal_lem block ancillary marks from step;
      then_nothing =
          λ some.
          let is = run_refused (block_of block) ancillary marks from step (λ none. some (p.refused ∙ none)) in (
            λ long.
                p.leaves ∙ ap (λ (r : Ran). r.stepped.block.bits ∷ r.stepped.block.octets) is ∙ first_rest block (λ none. omega (arith, long, none)),
            p.hands ∙ ap (λ (r : Ran). r.stepped.handed.answer ∷ r.stepped.handed.octets) is,
            p.goes_on ∙ ap (λ (r : Ran). r.next) is,
          );
    }

pub names_format : (octet : ℕ) {refusal : ℕ} {facts : List ℕ}
    → (refusal ≡ format_refusal octet) × (facts ≡ format_numbers (format_of octet))
    → Refuses refusal (cond (is_listed octet) 0 1) (facts ≡ replicate 4 0)
unfolding format_of
names_format octet p =
    record {
      by_the_table = p.0;
      then_nothing = λ some. split (is_listed octet) (λ e. absurd (some (p.0 ∙ rw e))) (λ e. p.1 ∙ rw e);
    }

pub judges : {state log : List ℕ} {place : ℕ} {reports : List ℕ} {refusal : ℕ} {left reports₁ counts : List ℕ}
    → JudgedOctets state log place reports refusal left reports₁ counts
    → Refuses refusal (R.state_refusal (receiver_of state)) ((left ≡ state) × (reports₁ ≡ reports) × (counts ≡ replicate 3 0))
unfolding over
judges {state} {log} {place} {reports} p =
    let st = receiver_of state in
    let by = p.refused ∙ judge_refusal st log place (length reports) in
    record {
      by_the_table = by;
      then_nothing =
          λ some.
          let refused : R.state_refusal st ≡ 0 → ⊥ = λ none. some (by ∙ none) in (
            stays _ _ (λ none. some (p.refused ∙ none)) p.leaves,
            p.judges.reports_after ∙ ap (λ (given : List ℕ). over given reports) (none_reported st log place (length reports) refused),
            p.counted ∙ ap judged_numbers (judge_refused st log place (length reports) refused),
          );
    }

pub receives_log : {state log : List ℕ} {place : ℕ} {samples ancillary marks : List ℕ} {refusal : ℕ}
    {left samples₁ ancillary₁ marks₁ counts : List ℕ}
    → ReceivedLogOctets state log place samples ancillary marks refusal left samples₁ ancillary₁ marks₁ counts
    → Refuses refusal (call_refusal (receiver_of state) (length samples) (length ancillary) (length marks))
    ((left ≡ state) × (samples₁ ≡ samples) × (ancillary₁ ≡ ancillary) × (marks₁ ≡ marks) × (counts ≡ replicate 9 0))
unfolding over
receives_log {state} {log} {place} {samples} {ancillary} {marks} p =
    let st = receiver_of state in
    let by = p.refused ∙ receive_log_refusal st log place (length samples) (length ancillary) (length marks) in
    record {
      by_the_table = by;
      then_nothing =
          λ some.
          let refused : call_refusal st (length samples) (length ancillary) (length marks) ≡ 0 → ⊥ = λ none. some (by ∙ none) in
          let nothing : (column : List Heard → List ℕ) → column_given column st log place (length samples) (length ancillary) (length marks) ≡ []
          = λ column. none_received st log place (length samples) (length ancillary) (length marks) column refused in (
            stays _ _ (λ none. some (p.refused ∙ none)) p.leaves,
            p.receives.samples_after ∙ ap (λ (given : List ℕ). over given samples) (nothing samples_of),
            p.receives.ancillary_after ∙ ap (λ (given : List ℕ). over given ancillary) (nothing ancillary_of),
            p.receives.marks_after ∙ ap (λ (given : List ℕ). over given marks) (nothing marks_of),
            p.counted ∙ ap batch_numbers (receive_log_refused st log place (length samples) (length ancillary) (length marks) refused),
          );
    }

pub sends_log : {state : List ℕ} {indications : Bool} {samples ancillary log : List ℕ} {place refusal : ℕ} {left log₁ counts : List ℕ}
    → Many.SentManyOctets state indications samples ancillary log place refusal left log₁ counts
    → Refuses refusal (batch_refusal (sender_of state) samples ancillary) ((left ≡ state) × (log₁ ≡ log) × (counts ≡ replicate 4 0))
sends_log {state} {indications} {samples} {ancillary} {log} {place} p =
    let st = sender_of state in
    let by = p.refused ∙ send_log_refusal indications st samples ancillary log place in
    record {
      by_the_table = by;
      then_nothing =
          λ some.
          let refused : batch_refusal st samples ancillary ≡ 0 → ⊥ = λ none. some (by ∙ none) in (
            stays _ _ (λ none. some (p.refused ∙ none)) p.leaves,
            p.writes ∙ none_sent indications st samples ancillary log place refused,
            p.counted ∙ ap Many.batch_numbers (send_log_refused indications st samples ancillary log place refused),
          );
    }

pub reads_header : (log : List ℕ) {refusal : ℕ} {header : List ℕ}
    → (refusal ≡ (header_of log).refusal) × (header ≡ header_numbers (header_of log))
    → Refuses refusal (header_refusal (number_at log 0) (second_number log) (third_number log)) (header ≡ replicate 4 0)
reads_header log p =
    as_said p.0 (line.demand_1_read_header log _ refl)
    (λ some none. p.1 ∙ (λ i. none.0 i ∷ none.1 i ∷ none.2 i ∷ none.3 i ∷ []))

pub reads_record : (log : List ℕ) (place : ℕ) {refusal : ℕ} {answer : List ℕ}
    → (refusal ≡ (record_at log place).refusal) × (answer ≡ record_numbers (record_at log place))
    → Refuses refusal (record_table log place) (answer ≡ replicate 4 0)
reads_record log place p =
    as_said p.0 (line.demand_1_read_record log place _ refl)
    (λ some none.
    p.1 ∙ (λ i. none.no_cell i ∷ cond (none.no_indication i) 1 0 ∷ none.no_start i ∷ none.no_next i ∷ []))

pub puts : {table place : ℕ} {octets log after : List ℕ} {refusal next : ℕ} → Keeps table place octets log (kept_as refusal next) after
    → Refuses refusal table ((next ≡ 0) × (after ≡ log))
puts p = laws.keeps p

pub asks : (log : List ℕ) {refusal : ℕ} {answer : List ℕ}
    → (refusal ≡ (presence_of log).refusal) × (answer ≡ presence_numbers (presence_of log))
    → Refuses refusal (header_refusal (number_at log 0) (second_number log) (third_number log)) (answer ≡ replicate 2 0)
asks log p =
    as_said p.0 (line.demand_1_anything log _ refl) (λ some none. p.1 ∙ (λ i. cond (none.0 i) 1 0 ∷ none.1 i ∷ []))

pub salvages : {log out list : List ℕ} {refusal : ℕ} {out₁ list₁ counts : List ℕ} → SalvagedLog log out list refusal out₁ list₁ counts
    → Refuses refusal (salvage_refusal log (length out) (length list)) ((out₁ ≡ out) × (list₁ ≡ list) × (counts ≡ replicate 3 0))
salvages {log} {out} {list} {out₁ = out₁} {list₁ = list₁} p =
    as_said p.refused (line.demand_1_salvage log out list _ out₁ list₁ p.salvages)
    (λ some none. (none.3, none.4, p.counted ∙ (λ i. none.0 i ∷ none.1 i ∷ none.2 i ∷ [])))

pub draws_up : {octets lengths rows : List ℕ} {refusal : ℕ} {rows₁ totals : List ℕ} → DrawsUp octets lengths rows refusal rows₁ totals
    → Refuses refusal (sheet_refusal octets lengths (length rows)) ((rows₁ ≡ rows) × (totals ≡ replicate 10 0))
draws_up {octets} {lengths} {rows} {rows₁ = rows₁} p =
    as_said p.refused (line.demand_1_sheet octets lengths rows _ rows₁ (record { answered = refl; rows_after = p.rows_after }))
    (λ some none. (none.1, p.totals_after ∙ none.0))

pub imports : {preambles subframes : List ℕ} {refusal : ℕ} {samples ancillary : List ℕ}
    → ImportedFrame preambles subframes refusal samples ancillary
    → Refuses refusal (import_refusal preambles subframes) ((samples ≡ replicate 2 0) × (ancillary ≡ replicate 2 0))
imports {preambles} {subframes} p =
    as_said p.refused (line.demand_1_import preambles subframes _ refl)
    (λ some none. (p.the_samples ∙ none.0, p.the_ancillary ∙ none.1))

pub exports : {samples ancillary : List ℕ} {refusal : ℕ} {preambles subframes : List ℕ}
    → ExportedFrame samples ancillary refusal preambles subframes
    → Refuses refusal (export_refusal samples ancillary) ((preambles ≡ replicate 2 0) × (subframes ≡ replicate 2 0))
exports {samples} {ancillary} p =
    as_said p.refused (line.demand_1_export samples ancillary _ refl)
    (λ some none. (p.the_preambles ∙ none.0, p.the_subframes ∙ none.1))

pub exports_units : {format channels size : ℕ} {samples ancillary out : List ℕ} {refusal : ℕ} {out₁ told : List ℕ}
    → ExportedUnits format channels size samples ancillary out refusal out₁ told
    → Refuses refusal (U.export_refusal format channels size samples ancillary (length out)) ((out₁ ≡ out) × (told ≡ replicate 3 0))
exports_units {format} {channels} {size} {samples} {ancillary} {out} {out₁ = out₁} p =
    as_said p.refused
    (line.demand_1_export_units
    (record {
      octet = format;
      channels = channels;
      size = size;
      samples = samples;
      ancillary = ancillary;
      out = out;
      answer = U.exported_of format channels size samples ancillary (length out);
      out_after = out₁;
    })
    p.writes)
    (λ some none. (none.out_as_lent, p.tells ∙ (λ i. none.no_octets i ∷ none.no_full i ∷ none.no_units i ∷ [])))

pub reads_unit : {format channels : ℕ} {unit samples ancillary : List ℕ} {refusal : ℕ} {samples₁ ancillary₁ : List ℕ} {entries : ℕ}
    → ReadUnit format channels unit samples ancillary refusal samples₁ ancillary₁ entries
    → Refuses refusal (U.read_refusal format channels (length unit) (length samples) (length ancillary))
    ((samples₁ ≡ samples) × (ancillary₁ ≡ ancillary) × (entries ≡ 0))
reads_unit {format} {channels} {unit} {samples} {ancillary} {samples₁ = samples₁} {ancillary₁ = ancillary₁} p =
    as_said p.refused
    (line.demand_1_read_unit
    (record {
      octet = format;
      channels = channels;
      unit = unit;
      samples = samples;
      ancillary = ancillary;
      answer = U.entered_of format channels (length unit) (length samples) (length ancillary);
      samples_after = samples₁;
      ancillary_after = ancillary₁;
    })
    p.reads)
    (λ some none. (none.samples_as_lent, none.ancillary_as_lent, p.tells ∙ none.no_entries))

pub checks : {octet channels frequency : ℕ} {shares allowances : List ℕ} {refusal : ℕ} {answer : List ℕ}
    → CheckedPlan octet channels frequency shares allowances refusal answer
    → Refuses refusal (check_refusal (octet_refusal octet) channels frequency (length shares) (length allowances)) (answer ≡ replicate 2 0)
checks {octet} {channels} {frequency} {shares} {allowances} p =
    as_said p.refused (line.demand_1_check_circuits octet channels frequency shares allowances _ refl)
    (λ some none. p.told ∙ (λ i. none.0 i ∷ none.1 i ∷ []))

pub plans : {octet channels : ℕ} {shares : List ℕ} {refusal : ℕ} {shares₁ : List ℕ} → Plans octet channels shares refusal shares₁
    → Refuses refusal (plan_refusal_of octet channels shares) (shares₁ ≡ shares)
plans {octet} {channels} {shares} {refusal} {shares₁} p = line.demand_1_plan_circuits octet channels shares refusal shares₁ p

pub equips : {ports : List ℕ} (message : List ℕ) {answer : List ℕ} {refusal : ℕ} {ports₁ answer₁ report : List ℕ}
    → Leaves (equipment_of ports message (length answer)) answer refusal ports₁ answer₁ report
    → Refuses refusal (equipment_refusal ports message (length answer)) ((ports₁ ≡ ports) × (answer₁ ≡ answer) × (report ≡ replicate 4 0))
equips {ports} message {answer} {refusal} {ports₁} {answer₁} {report} p =
    let one = management.demand_1_equipment
    (record {
      ports = ports;
      message = message;
      answer = answer;
      refusal = refusal;
      ports_after = ports₁;
      answer_after = answer₁;
      report = report;
    })
    p in
    record {
      by_the_table = one.0;
      then_nothing = λ some. let none = one.1 some in (none.ports_stay, none.answer_stays, none.report_zeros);
    }

pub controls : {ports message : List ℕ} {refusal : ℕ} {ports₁ : List ℕ} → Takes ports message refusal ports₁
    → Refuses refusal (controller_refusal message) (ports₁ ≡ ports)
controls {ports} {message} {refusal} {ports₁} p =
    let one = management.demand_1_controller (record { ports = ports; message = message; refusal = refusal; ports_after = ports₁ }) p in
    record { by_the_table = one.0; then_nothing = one.1 }

pub watches : {watch report : List ℕ} {refusal : ℕ} {left slip : List ℕ} → SlippedOctets watch report refusal left slip
    → Refuses refusal (step_refusal (watch_of watch) (get_or report 0 0) (get_or report 1 0) (get_or report 2 0)) ((left ≡ watch) × (slip ≡ replicate 2 0))
watches {watch} {report} p =
    let said = slips.demand_1_step (watch_of watch) (get_or report 0 0) (get_or report 1 0) (get_or report 2 0) (slipped_of watch report) refl in
    record {
      by_the_table = p.refused ∙ said.0;
      then_nothing =
          λ some.
          let so : (slipped_of watch report).refusal ≡ 0 → ⊥ = λ none. some (p.refused ∙ none) in
          let nothing = said.1 so in (
            stays _ _ so p.leaves,
            p.tells ∙ ap₂ (λ (a b : ℕ). a ∷ b ∷ []) nothing.nothing_told nothing.no_cells,
          );
    }

pub settles : {port : List ℕ} {refusal : ℕ} {settings : List ℕ} → Sets port refusal settings
    → Refuses refusal (record_refusal port) (settings ≡ replicate 3 0)
settles {port} {refusal} {settings} p =
    let one = management.demand_1_port_settings (record { port = port; refusal = refusal; settings = settings }) p in
    record { by_the_table = one.0; then_nothing = one.1 }

pub packs : {format channels order refusal packing : ℕ} → Packs format channels order refusal packing
    → Refuses refusal (settings_refusal format channels order) (packing ≡ 0)
packs {format} {channels} {order} {refusal} {packing} p =
    let one = management.demand_1_port_packing
    (record { format = format; channels = channels; order = order; refusal = refusal; packing = packing }) p in
    record { by_the_table = one.0; then_nothing = one.1 }
