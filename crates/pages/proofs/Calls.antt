-- Demand 1 of the C calls, on one page: "It refuses exactly where document 01's table says so, under that number; the state then comes
-- back as it went in and nothing lent changes." Each statement is over the call's own `ensures`. What a call only reports through is zeros
-- where it refuses ("any other reported number 0", "zeros from an opening"); a run with a length, a state and a block are as they were lent.
-- Assumes nothing.
use mathlib.Core.Bool.{cond}
use mathlib.Core.Path.{◌≡◌}
use lib.ListN.{length, get_or, replicate}
use Rattle.formats.specs.Formats.{is_listed, settings_refusal}
use Rattle.sender.specs.Sender as S
use Rattle.receiver.specs.Receiver as R
use Rattle.status.specs.Step.{is_refused}
use Rattle.status.specs.Check.{check_character}
use Rattle.cell_log.specs.Numbers.{number_at}
use Rattle.cell_log.specs.Records.{header_refusal, second_number, third_number}
use Rattle.cell_log.specs.Written.{header_refused_of, record_refusal}
use Rattle.saving.specs.Salvage.{salvage_refusal}
use Rattle.figures.specs.Sheets.{sheet_refusal}
use Rattle.cable.specs.Frames.{import_refusal, export_refusal}
use Rattle.units.specs.Units as U
use Rattle.circuits.specs.Circuits.{octet_refusal, check_refusal, plan_refusal_of}
use Rattle.slips.specs.Watch.{step_refusal}
use Rattle.rimesatchel.specs.Boxes.{sender_of, receiver_of, count_of}
use Rattle.rimesatchel.specs.Watches.{watch_of}
use Rattle.rimesatchel.proofs.facts.rime_format.Kinds as format-kinds
use Rattle.rimesatchel.proofs.facts.rime_format.Reads as format-reads
use Rattle.hearing.specs.Receiving.{call_refusal}
use Rattle.sender.specs.Many.{batch_refusal}
use Rattle.rimesatchel.proofs.batches.rime_judge_log.Kinds as judge-log-kinds
use Rattle.rimesatchel.proofs.batches.rime_judge_log.Reads as judge-log-reads
use Rattle.rimesatchel.proofs.batches.rime_receive_log.Kinds as receive-log-kinds
use Rattle.rimesatchel.proofs.batches.rime_receive_log.Reads as receive-log-reads
use Rattle.rimesatchel.proofs.many.rime_send_log.Kinds as send-log-kinds
use Rattle.rimesatchel.proofs.many.rime_send_log.Reads as send-log-reads
use Rattle.rimesatchel.proofs.boxes.rime_sender_open.Kinds as sender-open-kinds
use Rattle.rimesatchel.proofs.boxes.rime_sender_open.Reads as sender-open-reads
use Rattle.rimesatchel.proofs.boxes.rime_send.Kinds as send-kinds
use Rattle.rimesatchel.proofs.boxes.rime_send.Reads as send-reads
use Rattle.rimesatchel.proofs.boxes.rime_receiver_open.Kinds as receiver-open-kinds
use Rattle.rimesatchel.proofs.boxes.rime_receiver_open.Reads as receiver-open-reads
use Rattle.rimesatchel.proofs.boxes.rime_receive.Kinds as receive-kinds
use Rattle.rimesatchel.proofs.boxes.rime_receive.Reads as receive-reads
use Rattle.rimesatchel.proofs.boxes.rime_receiver_placed.Kinds as placed-kinds
use Rattle.rimesatchel.proofs.boxes.rime_receiver_placed.Reads as placed-reads
use Rattle.rimesatchel.proofs.statuses.rime_status_step.Kinds as status-kinds
use Rattle.rimesatchel.proofs.statuses.rime_status_step.Reads as status-reads
use Rattle.rimesatchel.proofs.statuses.rime_status_run.Kinds as status-run-kinds
use Rattle.rimesatchel.proofs.statuses.rime_status_run.Reads as status-run-reads
use Rattle.rimesatchel.proofs.statuses.rime_check_character.Kinds as character-kinds
use Rattle.rimesatchel.proofs.statuses.rime_check_character.Reads as character-reads
use Rattle.rimesatchel.proofs.logs.rime_log_header.Kinds as header-kinds
use Rattle.rimesatchel.proofs.logs.rime_log_header.Reads as header-reads
use Rattle.rimesatchel.proofs.logs.rime_log_record.Kinds as record-kinds
use Rattle.rimesatchel.proofs.logs.rime_log_record.Reads as record-reads
use Rattle.rimesatchel.proofs.kept.rime_log_put_header.Kinds as put-header-kinds
use Rattle.rimesatchel.proofs.kept.rime_log_put_header.Reads as put-header-reads
use Rattle.rimesatchel.proofs.kept.rime_log_put_record.Kinds as put-record-kinds
use Rattle.rimesatchel.proofs.kept.rime_log_put_record.Reads as put-record-reads
use Rattle.rimesatchel.proofs.kept.rime_log_list.Kinds as list-kinds
use Rattle.rimesatchel.proofs.kept.rime_log_list.Reads as list-reads
use Rattle.rimesatchel.proofs.contents.rime_anything.Kinds as anything-kinds
use Rattle.rimesatchel.proofs.contents.rime_anything.Reads as anything-reads
use Rattle.rimesatchel.proofs.salvages.rime_salvage.Kinds as salvage-kinds
use Rattle.rimesatchel.proofs.salvages.rime_salvage.Reads as salvage-reads
use Rattle.rimesatchel.proofs.sheets.rime_sheet.Kinds as sheet-kinds
use Rattle.rimesatchel.proofs.sheets.rime_sheet.Reads as sheet-reads
use Rattle.rimesatchel.proofs.frames.rime_aes3_import.Kinds as import-kinds
use Rattle.rimesatchel.proofs.frames.rime_aes3_import.Reads as import-reads
use Rattle.rimesatchel.proofs.frames.rime_aes3_export.Kinds as export-kinds
use Rattle.rimesatchel.proofs.frames.rime_aes3_export.Reads as export-reads
use Rattle.rimesatchel.proofs.network.rime_units_export.Kinds as export-units-kinds
use Rattle.rimesatchel.proofs.network.rime_units_export.Reads as export-units-reads
use Rattle.rimesatchel.proofs.network.rime_unit_read.Kinds as read-unit-kinds
use Rattle.rimesatchel.proofs.network.rime_unit_read.Reads as read-unit-reads
use Rattle.rimesatchel.proofs.plans.rime_circuits_check.Kinds as check-kinds
use Rattle.rimesatchel.proofs.plans.rime_circuits_check.Reads as check-reads
use Rattle.rimesatchel.proofs.plans.rime_circuits_plan.Kinds as plan-kinds
use Rattle.rimesatchel.proofs.plans.rime_circuits_plan.Reads as plan-reads
use Rattle.rimesatchel.proofs.watches.rime_slip.Kinds as slip-kinds
use Rattle.rimesatchel.proofs.watches.rime_slip.Reads as slip-reads
use Rattle.management.specs.Demands as M
use Rattle.management.proofs.packing.rime_port_settings.Kinds as port-settings-kinds
use Rattle.management.proofs.packing.rime_port_settings.Reads as port-settings-reads
use Rattle.management.proofs.packing.rime_port_packing.Kinds as port-packing-kinds
use Rattle.management.proofs.packing.rime_port_packing.Reads as port-packing-reads
use Rattle.management.proofs.equipment.rime_equipment.Kinds as equipment-kinds
use Rattle.management.proofs.equipment.rime_equipment.Reads as equipment-reads
use Rattle.management.proofs.controller.rime_controller.Kinds as controller-kinds
use Rattle.management.proofs.controller.rime_controller.Reads as controller-reads
use Rattle.line.specs.Demands.{Refuses, record_table}
use Rattle.line.proofs.Ensures.{Ensured}
use Rattle.pages.specs.Papers.{run_refusal}
use Rattle.pages.proofs.Refused as Refused

-- a format's facts: 1 for "an octet that is none of the fourteen"
pub format_refuses : Ensured format-kinds.ps format-kinds.r format-reads.Post
    (λ κs a x v.
    let facts = v.1.0 in
    Refuses x (cond (is_listed a.0) 0 1) (facts ≡ replicate 4 0))
format_refuses κs a x v p = Refused.names_format a.0 p

-- an opening: the state is all that it answers through, and is zeros where it refuses
pub sender_open_refuses : Ensured sender-open-kinds.ps sender-open-kinds.r sender-open-reads.Post
    (λ κs a x v.
    let asked = S.open_state a.0 a.1.0 a.1.1.0 a.1.1.1.0 a.1.1.1.1.0 a.1.1.1.1.1.0 in
    let state_left = v.1.1.1.1.1.1.0 in
    Refuses x (S.state_refusal asked) (state_left ≡ replicate 7 0))
sender_open_refuses κs a x v p = Refused.opens_sender p

pub receiver_open_refuses : Ensured receiver-open-kinds.ps receiver-open-kinds.r receiver-open-reads.Post
    (λ κs a x v.
    let state_left = v.1.1.1.0 in
    Refuses x (settings_refusal a.0 a.1.0 a.1.1.0) (state_left ≡ replicate 9 0))
receiver_open_refuses κs a x v p = Refused.opens_receiver p

pub send_refuses : Ensured send-kinds.ps send-kinds.r send-reads.Post
    (λ κs a x v.
    let state = a.0.now in
    let cell = a.1.1.1.1.0.now in
    let state_left = v.0 in
    let cell_left = v.1.1.1.1.0 in
    Refuses x (S.send_refusal (sender_of state) a.1.0 a.1.1.0.now a.1.1.1.0.now (length cell))
    ((state_left ≡ state) × (cell_left ≡ cell)))
send_refuses κs a x v p = Refused.sends p

pub receive_refuses : Ensured receive-kinds.ps receive-kinds.r receive-reads.Post
    (λ κs a x v.
    let state = a.0.now in
    let cell = a.1.0.now in
    let samples = a.1.1.1.0.now in
    let ancillary = a.1.1.1.1.0.now in
    let marks = a.1.1.1.1.1.0.now in
    let state_left = v.0 in
    let samples_left = v.1.1.1.0 in
    let ancillary_left = v.1.1.1.1.0 in
    let marks_left = v.1.1.1.1.1.0 in
    let report = v.1.1.1.1.1.1.0 in
    Refuses x (R.receive_refusal (receiver_of state) cell a.1.1.0 (length samples) (length ancillary) (length marks))
    ((state_left ≡ state)
    × (samples_left ≡ samples)
    × (ancillary_left ≡ ancillary)
    × (marks_left ≡ marks)
    × (report ≡ replicate 4 0)))
receive_refuses κs a x v p = Refused.receives p

-- it refuses nothing
pub placed_answers : Ensured placed-kinds.ps placed-kinds.r placed-reads.Post (λ κs a x v. x ≡ count_of a.0.now)
unfolding receiver_of
placed_answers κs a x v p = p

-- the watch is lent, in seven octets
pub slip_refuses : Ensured slip-kinds.ps slip-kinds.r slip-reads.Post
    (λ κs a x v.
    let watch = a.0.now in
    let report = a.1.0.now in
    let watch_left = v.0 in
    let slip = v.1.1.0 in
    Refuses x (step_refusal (watch_of watch) (get_or report 0 0) (get_or report 1 0) (get_or report 2 0))
    ((watch_left ≡ watch) × (slip ≡ replicate 2 0)))
slip_refuses κs a x v p = Refused.watches p

-- the block is lent, in 25 octets; what goes out is zeros
pub status_refuses : Ensured status-kinds.ps status-kinds.r status-reads.Post
    (λ κs a x v.
    let block = a.0.now in
    let block_left = v.0 in
    let out = v.1.1.1.0 in
    Refuses x (cond (is_refused (get_or block 0 0) a.1.0 a.1.1.0) 14 0)
    ((length block ≡ 25 → block_left ≡ block) × (out ≡ replicate 25 0)))
status_refuses κs a x v p = Refused.steps p

-- many steps: 5, then 14 at any entry that the call would use
pub status_run_refuses : Ensured status-run-kinds.ps status-run-kinds.r status-run-reads.Post
    (λ κs a x v.
    let block = a.0.now in
    let block_left = v.0 in
    let out = v.1.1.1.1.1.0 in
    let next = v.1.1.1.1.1.1.0 in
    Refuses x (run_refusal block a.1.0.now a.1.1.0.now a.1.1.1.0 a.1.1.1.1.0)
    ((length block ≡ 25 → block_left ≡ block) × (out ≡ replicate 25 0) × (next ≡ 0)))
status_run_refuses κs a x v p = Refused.runs p

-- it refuses nothing
pub character_answers : Ensured character-kinds.ps character-kinds.r character-reads.Post (λ κs a x v. x ≡ check_character a.0.now)
character_answers κs a x v p = p

pub header_refuses : Ensured header-kinds.ps header-kinds.r header-reads.Post
    (λ κs a x v.
    let log = a.0.now in
    let header = v.1.0 in
    Refuses x (header_refusal (number_at log 0) (second_number log) (third_number log)) (header ≡ replicate 4 0))
header_refuses κs a x v p = Refused.reads_header a.0.now p

pub record_refuses : Ensured record-kinds.ps record-kinds.r record-reads.Post
    (λ κs a x v.
    let answer = v.1.1.0 in
    Refuses x (record_table a.0.now a.1.0) (answer ≡ replicate 4 0))
record_refuses κs a x v p = Refused.reads_record a.0.now a.1.0 p

-- many records: where it stopped is no refusal, so that a state alone is refused, 1 to 4
pub judge_log_refuses : Ensured judge-log-kinds.ps judge-log-kinds.r judge-log-reads.Post
    (λ κs a x v.
    let state = a.0.now in
    let reports = a.1.1.1.0.now in
    let state_left = v.0 in
    let reports_left = v.1.1.1.0 in
    let counts = v.1.1.1.1.0 in
    Refuses x (R.state_refusal (receiver_of state)) ((state_left ≡ state) × (reports_left ≡ reports) × (counts ≡ replicate 3 0)))
judge_log_refuses κs a x v p = Refused.judges p

pub receive_log_refuses : Ensured receive-log-kinds.ps receive-log-kinds.r receive-log-reads.Post
    (λ κs a x v.
    let state = a.0.now in
    let samples = a.1.1.1.0.now in
    let ancillary = a.1.1.1.1.0.now in
    let marks = a.1.1.1.1.1.0.now in
    let state_left = v.0 in
    let samples_left = v.1.1.1.0 in
    let ancillary_left = v.1.1.1.1.0 in
    let marks_left = v.1.1.1.1.1.0 in
    let counts = v.1.1.1.1.1.1.0 in
    Refuses x (call_refusal (receiver_of state) (length samples) (length ancillary) (length marks))
    ((state_left ≡ state) × (samples_left ≡ samples) × (ancillary_left ≡ ancillary) × (marks_left ≡ marks) × (counts ≡ replicate 9 0)))
receive_log_refuses κs a x v p = Refused.receives_log p

pub send_log_refuses : Ensured send-log-kinds.ps send-log-kinds.r send-log-reads.Post
    (λ κs a x v.
    let state = a.0.now in
    let samples = a.1.1.0.now in
    let ancillary = a.1.1.1.0.now in
    let log = a.1.1.1.1.0.now in
    let state_left = v.0 in
    let log_left = v.1.1.1.1.0 in
    let counts = v.1.1.1.1.1.1.0 in
    Refuses x (batch_refusal (sender_of state) samples ancillary) ((state_left ≡ state) × (log_left ≡ log) × (counts ≡ replicate 4 0)))
send_log_refuses κs a x v p = Refused.sends_log p

pub put_header_refuses : Ensured put-header-kinds.ps put-header-kinds.r put-header-reads.Post
    (λ κs a x v.
    let log = a.0.now in
    let log_left = v.0 in
    let next = v.1.1.1.1.0 in
    Refuses x (header_refused_of log a.1.0 a.1.1.0 a.1.1.1.0) ((next ≡ 0) × (log_left ≡ log)))
put_header_refuses κs a x v p = Refused.puts p

pub put_record_refuses : Ensured put-record-kinds.ps put-record-kinds.r put-record-reads.Post
    (λ κs a x v.
    let log = a.0.now in
    let log_left = v.0 in
    let next = v.1.1.1.1.0 in
    Refuses x (record_refusal log a.1.0 a.1.1.0.now) ((next ≡ 0) × (log_left ≡ log)))
put_record_refuses κs a x v p = Refused.puts p

-- it refuses nothing: a log that can't be read has a list that says so
pub list_refuses_nothing : Ensured list-kinds.ps list-kinds.r list-reads.Post (λ κs a x v. x ≡ 0)
list_refuses_nothing κs a x v p = p.refused

pub anything_refuses : Ensured anything-kinds.ps anything-kinds.r anything-reads.Post
    (λ κs a x v.
    let log = a.0.now in
    let answer = v.1.0 in
    Refuses x (header_refusal (number_at log 0) (second_number log) (third_number log)) (answer ≡ replicate 2 0))
anything_refuses κs a x v p = Refused.asks a.0.now p

pub salvage_refuses : Ensured salvage-kinds.ps salvage-kinds.r salvage-reads.Post
    (λ κs a x v.
    let out = a.1.0.now in
    let list = a.1.1.0.now in
    let out_left = v.1.0 in
    let list_left = v.1.1.0 in
    let counts = v.1.1.1.0 in
    Refuses x (salvage_refusal a.0.now (length out) (length list))
    ((out_left ≡ out) × (list_left ≡ list) × (counts ≡ replicate 3 0)))
salvage_refuses κs a x v p = Refused.salvages p

pub sheet_refuses : Ensured sheet-kinds.ps sheet-kinds.r sheet-reads.Post
    (λ κs a x v.
    let rows = a.1.1.0.now in
    let rows_left = v.1.1.0 in
    let totals = v.1.1.1.0 in
    Refuses x (sheet_refusal a.0.now a.1.0.now (length rows)) ((rows_left ≡ rows) × (totals ≡ replicate 10 0)))
sheet_refuses κs a x v p = Refused.draws_up p

pub import_refuses : Ensured import-kinds.ps import-kinds.r import-reads.Post
    (λ κs a x v.
    let samples = v.1.1.0 in
    let ancillary = v.1.1.1.0 in
    Refuses x (import_refusal a.0.now a.1.0.now) ((samples ≡ replicate 2 0) × (ancillary ≡ replicate 2 0)))
import_refuses κs a x v p = Refused.imports p

pub export_refuses : Ensured export-kinds.ps export-kinds.r export-reads.Post
    (λ κs a x v.
    let preambles = v.1.1.0 in
    let subframes = v.1.1.1.0 in
    Refuses x (export_refusal a.0.now a.1.0.now) ((preambles ≡ replicate 2 0) × (subframes ≡ replicate 2 0)))
export_refuses κs a x v p = Refused.exports p

pub export_units_refuses : Ensured export-units-kinds.ps export-units-kinds.r export-units-reads.Post
    (λ κs a x v.
    let out = a.1.1.1.1.1.0.now in
    let out_left = v.1.1.1.1.1.0 in
    let told = v.1.1.1.1.1.1.0 in
    Refuses x (U.export_refusal a.0 a.1.0 a.1.1.0 a.1.1.1.0.now a.1.1.1.1.0.now (length out))
    ((out_left ≡ out) × (told ≡ replicate 3 0)))
export_units_refuses κs a x v p = Refused.exports_units p

pub read_unit_refuses : Ensured read-unit-kinds.ps read-unit-kinds.r read-unit-reads.Post
    (λ κs a x v.
    let samples = a.1.1.1.0.now in
    let ancillary = a.1.1.1.1.0.now in
    let samples_left = v.1.1.1.0 in
    let ancillary_left = v.1.1.1.1.0 in
    let entries = v.1.1.1.1.1.0 in
    Refuses x (U.read_refusal a.0 a.1.0 (length a.1.1.0.now) (length samples) (length ancillary))
    ((samples_left ≡ samples) × (ancillary_left ≡ ancillary) × (entries ≡ 0)))
read_unit_refuses κs a x v p = Refused.reads_unit p

pub check_refuses : Ensured check-kinds.ps check-kinds.r check-reads.Post
    (λ κs a x v.
    let shares = a.1.1.1.0.now in
    let allowances = a.1.1.1.1.0.now in
    let answer = v.1.1.1.1.1.0 in
    Refuses x (check_refusal (octet_refusal a.0) a.1.0 a.1.1.0 (length shares) (length allowances)) (answer ≡ replicate 2 0))
check_refuses κs a x v p = Refused.checks p

pub plan_refuses : Ensured plan-kinds.ps plan-kinds.r plan-reads.Post
    (λ κs a x v.
    let shares = a.1.1.0.now in
    let shares_left = v.1.1.0 in
    Refuses x (plan_refusal_of a.0 a.1.0 shares) (shares_left ≡ shares))
plan_refuses κs a x v p = Refused.plans p

-- the management port: "24 for a message of no octets, then 25 for an answer buffer too short, with no record changed"
pub equipment_refuses : Ensured equipment-kinds.ps equipment-kinds.r equipment-reads.Post
    (λ κs a x v.
    let ports = a.0.now in
    let answer = a.1.1.0.now in
    let ports_left = v.0 in
    let answer_left = v.1.1.0 in
    let report = v.1.1.1.0 in
    Refuses x (M.equipment_refusal ports a.1.0.now (length answer))
    ((ports_left ≡ ports) × (answer_left ≡ answer) × (report ≡ replicate 4 0)))
equipment_refuses κs a x v p = Refused.equips a.1.0.now p

pub controller_refuses : Ensured controller-kinds.ps controller-kinds.r controller-reads.Post
    (λ κs a x v.
    let ports = a.0.now in
    let ports_left = v.0 in
    Refuses x (M.controller_refusal a.1.0.now) (ports_left ≡ ports))
controller_refuses κs a x v p = Refused.controls p

-- a port's settings, by its record and by its packing octet: checks 1 to 3
pub port_settings_refuses : Ensured port-settings-kinds.ps port-settings-kinds.r port-settings-reads.Post
    (λ κs a x v.
    let settings = v.1.0 in
    Refuses x (M.record_refusal a.0.now) (settings ≡ replicate 3 0))
port_settings_refuses κs a x v p = Refused.settles p

pub port_packing_refuses : Ensured port-packing-kinds.ps port-packing-kinds.r port-packing-reads.Post
    (λ κs a x v.
    let packing = v.1.1.1.0 in
    Refuses x (settings_refusal a.0 a.1.0 a.1.1.0) (packing ≡ 0))
port_packing_refuses κs a x v p = Refused.packs p
