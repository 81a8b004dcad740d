-- Requests 1, 3, 6, 7, 9, 11, 12, 13 and 14 of document 02, on one page: each sentence beside its theorem, of the C calls where there is
-- one, each proof a citation. What a C call promises is the record that its `ensures` names.
-- Assumes nothing.
use mathlib.Core.Bool.{true, false}
use mathlib.Core.List.{List, ◌∷◌, ◌++◌}
use mathlib.Core.Path.{◌≡◌, ap}
use Prim.Native.Nat.{ℕ, ◌+◌, ◌*◌, ◌≤◌, ◌<◌}
use lib.ListN.{length, get_or, take, drop}
use Rattle.formats.specs.Formats.{format_of}
use Rattle.cell_log.specs.Records.{header_of}
use Rattle.reading.specs.Heard.{sound_in}
use Rattle.reading.specs.Reading.{reading_of, fresh_of, behind_header}
use Rattle.reading.specs.Records.{records_in}
use Rattle.reading.specs.Totals.{Each}
use Rattle.pieces.specs.Taken.{joined_of}
use Rattle.listing.specs.declared.Tally.{Tally}
use Rattle.listing.specs.List.{list_to}
use Rattle.listing.specs.Taking.{start_of, written_over_of, listing_over}
use Rattle.listing.proofs.Whole as listing
use Rattle.presence.specs.Handed.{FirstIn, AllSilent}
use Rattle.presence.specs.Presence.{presence_of}
use Rattle.presence.specs.Taking as P
use Rattle.presence.specs.declared.Search.{Search}
use Rattle.presence.proofs.Going as presence
use Rattle.presence.proofs.Stops as stops
use Rattle.saving.specs.Demands.{SameLine}
use Rattle.salvaging.specs.Lines.{end_line}
use Rattle.salvaging.specs.Said as Said
use Rattle.salvaging.specs.Taking as T
use Rattle.salvaging.proofs.Whole as salvaging
use Rattle.figures.specs.Sheets.{sum_of, AddUp}
use Rattle.cable.specs.Back.{Halves, SameFrame}
use Rattle.cable.specs.Frames.{export_of}
use Rattle.cable.specs.Rows.{pair_at}
use Rattle.units.specs.Back as U
use Rattle.units.proofs.Back as units
use Rattle.rimesatchel.specs.Contents.{presence_numbers}
use Rattle.rimesatchel.specs.Frames.{ImportedFrame, ExportedFrame}
use Rattle.rimesatchel.specs.Plans.{CheckedPlan}
use Rattle.rimesatchel.specs.Salvages.{SalvagedLog}
use Rattle.rimesatchel.specs.Sheets.{DrawsUp}
use Rattle.rimesatchel.specs.Statuses.{SteppedOctets}
use Rattle.rimesatchel.proofs.SheetsAdd.{rime_sheets_add_up}
use Rattle.management.specs.Demands.{Equips, Controls, Settles, Codes}
use Rattle.management.proofs.equipment.rime_equipment.Kinds as equipment-kinds
use Rattle.management.proofs.equipment.rime_equipment.Reads as equipment-reads
use Rattle.management.proofs.controller.rime_controller.Kinds as controller-kinds
use Rattle.management.proofs.controller.rime_controller.Reads as controller-reads
use Rattle.management.proofs.packing.rime_port_settings.Kinds as port-settings-kinds
use Rattle.management.proofs.packing.rime_port_settings.Reads as port-settings-reads
use Rattle.management.proofs.packing.rime_port_packing.Kinds as port-packing-kinds
use Rattle.management.proofs.packing.rime_port_packing.Reads as port-packing-reads
use Rattle.line.proofs.Ensures.{Ensured}
use Rattle.pages.specs.Papers.{
  AnswersFit,
  EndsAs,
  Checks,
  UnitsFace,
  MeetsUnitsFace,
  export_of_face,
  UnitFace,
  MeetsUnitFace,
  read_of_face,
}
use Rattle.pages.specs.Rows.{
  Cell,
  Crosses,
  samples_out,
  ancillary_out,
  TwoOf56,
  CarriesFrames,
  frames_in,
  ExportsRow,
  RowBack,
}
use Rattle.pages.proofs.Asked as Asked
use Rattle.pages.proofs.Ended as Ended
use Rattle.pages.proofs.Streams as Streams

-- 1. "Export of an imported frame gives the same slots 4 to 31 and the same preambles."
pub frame_back : (preambles subframes samples ancillary preambles₁ subframes₁ : List ℕ) (x y : ℕ) → Halves preambles subframes
    → ImportedFrame preambles subframes x samples ancillary → x ≡ 0 → ExportedFrame samples ancillary y preambles₁ subframes₁
    → SameFrame preambles subframes (record { refusal = y; preambles = preambles₁; subframes = subframes₁ })
frame_back = Asked.frame_back

-- "Demands 2 and 3 read on as they are": of a row of cells of 56 hex with two channels, taken unaltered with whatever was missing before
-- each, every frame that was imported into one of them stands behind the frames of the cells before it, and is exported as it came.
pub frames_arrive : (before : List Cell) (x : Cell) (later : List Cell) → Each TwoOf56 before → TwoOf56 x
    → (preambles subframes : ℕ → List ℕ) → CarriesFrames preambles subframes x → (k : ℕ) → k < 6
    → SameFrame (preambles k) (subframes k)
    (export_of (pair_at (samples_out (before ++ (x ∷ later))) (frames_in before + (x.got.answer.missing * 6 + k)))
    (pair_at (ancillary_out (before ++ (x ∷ later))) (frames_in before + (x.got.answer.missing * 6 + k))))
frames_arrive = Streams.frames_back

-- 3. "sheets of two lists joined add up to the sheet of the joined list, if that isn't refused, the per-million line apart"
pub sheets_add_up : {octets more lengths others rows rows' rows'' rows-a rows-b rows_joined a b joined : List ℕ} {x y z : ℕ}
    → sum_of lengths ≡ length octets → length rows ≡ 10 * length lengths → length rows' ≡ 10 * length others
    → DrawsUp octets lengths rows x rows-a a → DrawsUp more others rows' y rows-b b
    → DrawsUp (octets ++ more) (lengths ++ others) rows'' z rows_joined joined → z ≡ 0
    → AddUp (record { refusal = x; totals = a }) (record { refusal = y; totals = b }) (record { refusal = z; totals = joined }) rows-a rows-b rows_joined
sheets_add_up = rime_sheets_add_up

-- 6. "The answer becomes one of three: fits, doesn't fit, none carried. The third is given exactly where that bit is 0": of what
-- `rime_status_step` writes to `out` where a block goes out.
pub three_answers : (block : List ℕ) (ancillary mark refusal : ℕ) (left out : List ℕ)
    → SteppedOctets block ancillary mark refusal left out → (get_or out 0 0 ≡ 0 → ⊥) → AnswersFit (drop 1 out) (get_or out 0 0)
three_answers = Asked.three_answers

-- 7. "is there a sample marked 0 that isn't zero? .. It also tells the first such record": the receiver hands such a sample out in that
-- record, and in no earlier one.
module _ (log : List ℕ) (refusal : ℕ) (answer : List ℕ) (said : (refusal ≡ (presence_of log).refusal) × (answer ≡ presence_numbers (presence_of log))) where
  pub anything_yes : get_or answer 0 0 ≡ 1 → FirstIn log (get_or answer 1 0)
  anything_yes = Asked.anything_yes log refusal answer said

  -- "a no tells how many whole records were read", and the receiver hands no such sample out in any of them
  pub anything_no : refusal ≡ 0 → get_or answer 0 0 ≡ 0
      → (get_or answer 1 0 ≡ length (records_in (behind_header log))) × AllSilent (fresh_of (header_of log)) (records_in (behind_header log))
  anything_no = Asked.anything_no log refusal answer said

-- "It should stop at the first one": behind a yes the program asks for no octet more, and whatever follows, the answer stays
pub anything_stops : (s : Search) → s.sought.found ≡ true → P.reads_on s ≡ false
anything_stops = Asked.anything_stops

pub anything_settled : (log more : List ℕ) → (presence_of log).found ≡ true → presence_of (log ++ more) ≡ presence_of log
anything_settled = stops.yes_whatever_follows

-- "Tickets 3, 7 and 9 may use it and their answers stay as they are"
pub anything_in_pieces : (held : List ℕ) (pieces : List (List ℕ)) → length held ≡ 49 → length (joined_of pieces) ≤ 18446744073709551615
    → P.answer_over P.search_start held pieces ≡ presence_of (joined_of pieces)
anything_in_pieces = presence.any_division_answer

-- 9. "Running the receiver over the new log gives the same samples, ancillary and marks as over the old one up to its first framing fault."
pub salvaged_the_same : (log out list : List ℕ) (refusal : ℕ) (out₁ list₁ counts : List ℕ)
    → SalvagedLog log out list refusal out₁ list₁ counts → refusal ≡ 0
    → SameLine (reading_of (take (get_or counts 0 0) out₁)) (reading_of log)
salvaged_the_same = Asked.salvaged_the_same

-- "Salvaging twice changes nothing and lists nothing", and cuts nothing.
pub salvaged_twice : (log out list : List ℕ) (refusal : ℕ) (out₁ list₁ counts : List ℕ)
    → SalvagedLog log out list refusal out₁ list₁ counts → refusal ≡ 0
    → (again more : List ℕ) (refusal₂ : ℕ) (out₂ list₂ counts₂ : List ℕ)
    → SalvagedLog (take (get_or counts 0 0) out₁) again more refusal₂ out₂ list₂ counts₂ → refusal₂ ≡ 0
    → (take (get_or counts₂ 0 0) out₂ ≡ take (get_or counts 0 0) out₁) × (get_or counts₂ 1 0 ≡ 0) × (list₂ ≡ more) × (get_or counts₂ 2 0 ≡ 0)
salvaged_twice = Asked.salvaged_twice

-- The same of the program `salvage`: the new log again, and the end line alone beside it.
pub text_twice : (log : List ℕ) → (header_of log).refusal ≡ 0
    → (Said.saved_of (Said.saved_of log) ≡ Said.saved_of log)
    × (Said.notes_of (Said.saved_of log) ≡ end_line (sound_in (reading_of (Said.saved_of log)).heard) 0 0)
text_twice = Asked.text_twice

-- and that is what the program writes, however the log is divided among the reads
pub saved_in_pieces : (held : List ℕ) (pieces : List (List ℕ)) → length held ≡ 49 → length (joined_of pieces) ≤ 18446744073709551615
    → T.saved_over T.start_of held pieces ≡ Said.saved_of (joined_of pieces)
saved_in_pieces = salvaging.any_division_saved

pub notes_in_pieces : (held : List ℕ) (pieces : List (List ℕ)) → length held ≡ 49 → length (joined_of pieces) ≤ 18446744073709551615
    → T.notes_over T.start_of held pieces ≡ Said.notes_of (joined_of pieces)
notes_in_pieces = salvaging.any_division_notes

-- 11. "Our checker says yes exactly when the shares are each 1 to S, add up to the channels asked for, and each circuit's cells per second ..
-- are within that circuit's allowance"; "A no names the first fault: circuit by circuit the share, then the allowance; the sum last."
pub checks : (octet channels frequency : ℕ) (shares allowances : List ℕ) (refusal : ℕ) (answer : List ℕ)
    → CheckedPlan octet channels frequency shares allowances refusal answer → refusal ≡ 0
    → Checks octet channels frequency shares allowances answer
checks = Asked.checks

-- 12. The theorems on the management port stand on management/Demands, over `Equips`, `Controls`, `Settles` and `Codes`: these are the calls'
-- own `ensures`.
pub equipment_ensures : Ensured equipment-kinds.ps equipment-kinds.r equipment-reads.Post
    (λ κs a x v. Equips (record {
      ports = a.0.now;
      message = a.1.0.now;
      answer = a.1.1.0.now;
      refusal = x;
      ports_after = v.0;
      answer_after = v.1.1.0;
      report = v.1.1.1.0;
    }))
equipment_ensures κs a x v p = p

pub controller_ensures : Ensured controller-kinds.ps controller-kinds.r controller-reads.Post
    (λ κs a x v. Controls (record { ports = a.0.now; message = a.1.0.now; refusal = x; ports_after = v.0 }))
controller_ensures κs a x v p = p

pub port_settings_ensures : Ensured port-settings-kinds.ps port-settings-kinds.r port-settings-reads.Post
    (λ κs a x v. Settles (record { port = a.0.now; refusal = x; settings = v.1.0 }))
port_settings_ensures κs a x v p = p

pub port_packing_ensures : Ensured port-packing-kinds.ps port-packing-kinds.r port-packing-reads.Post
    (λ κs a x v. Codes (record { format = a.0; channels = a.1.0; order = a.1.1.0; refusal = x; packing = v.1.1.1.0 }))
port_packing_ensures κs a x v p = p

-- 13. "a data unit holds whole frames, as many as fit a stated size, the last one perhaps fewer", of `rime_units_export`; "Reading the
-- units back gives every sample and ancillary bit", of `rime_unit_read`.
pub holds_frames : (e : UnitsFace) → MeetsUnitsFace e → e.refusal ≡ 0 → (k : ℕ) → k < get_or e.told 2 0 → U.HoldsFrames (export_of_face e) k
holds_frames e meets left k less = units.holds_frames (export_of_face e) (Asked.units_as e meets) left less

pub back_whole : (e : UnitsFace) → MeetsUnitsFace e → e.refusal ≡ 0 → (reads : ℕ → UnitFace)
    → ((k : ℕ) → k < get_or e.told 2 0 → U.ReadsUnit (export_of_face e) k (read_of_face (reads k)) × MeetsUnitFace (reads k))
    → U.BackWhole (export_of_face e) (λ k. read_of_face (reads k))
back_whole e meets left reads each =
    units.back_whole (export_of_face e) (Asked.units_as e meets) left (λ k. read_of_face (reads k))
    (λ k less. ((each k less).0, Asked.unit_as (reads k) (each k less).1))

-- "Export what the receiver wrote": of a row of cells without overhead, taken unaltered, all that was handed out leaves as data units, and
-- reading them gives every sample and ancillary number that was sent.
pub units_come_back : (cells : List Cell) → Each (λ x. Crosses x × ((format_of x.sent.state.format).overhead_bits ≡ 0)) cells
    → (e : U.ExportCall) → ExportsRow cells e → U.MeetsExport e → e.answer.refusal ≡ 0 → (reads : ℕ → U.ReadCall)
    → ((k : ℕ) → k < e.answer.units → U.ReadsUnit e k (reads k) × U.MeetsRead (reads k)) → RowBack cells e reads
units_come_back = Streams.units_back

-- 14. "However the log is divided among the reads, the lines printed and the state at the end are those of the whole": the state is that of
-- a fresh receiver behind all records within the limit, and the counts are counts over them.
pub list_in_pieces : (limit : ℕ) (held : List ℕ) (pieces : List (List ℕ)) → limit ≤ 4294967295 → length held ≡ 49
    → written_over_of (start_of limit) held pieces ≡ list_to limit (joined_of pieces)
list_in_pieces = listing.any_division_list

pub ends_as : (limit : ℕ) (held : List ℕ) (pieces : List (List ℕ)) → limit ≤ 4294967295 → length held ≡ 49
    → (header_of (joined_of pieces)).refusal ≡ 0 → EndsAs limit (joined_of pieces) (listing_over (start_of limit) held pieces).tally
ends_as limit held pieces long size taken =
    let is = Ended.ended limit held pieces long size taken in
    record {
      state = ap (λ (t : Tally). t.state) is;
      records = ap (λ (t : Tally). t.records) is;
      sound = ap (λ (t : Tally). t.sound) is;
      missing = ap (λ (t : Tally). t.missing) is;
      refused = ap (λ (t : Tally). t.refused) is;
    }
