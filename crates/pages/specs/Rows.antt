-- Rows of cells that cross the line unaltered, and what their receiver hands out, one call after the other.
-- Assumes nothing.
use mathlib.Core.List.{List, flat_map}
use Rattle.std.specs.Prelude.{◌≡◌, ℕ, suc, ◌*◌, ◌<◌, take}
use Rattle.runs.specs.Runs.{joined}
use Rattle.reading.specs.Totals.{total_of}
use Rattle.receiver.specs.Receiver as R
use Rattle.cable.specs.Back.{Halves}
use Rattle.cable.specs.Frames.{import_of}
use Rattle.cable.specs.Rows.{samples_of, ancillary_of}
use Rattle.units.specs.Back.{ExportCall, ReadCall, samples_read, ancillary_read}
use Rattle.line.specs.Calls.{SendCall, MeetsSend, ReceiveCall, MeetsReceive}
use Rattle.line.specs.Demands.{InSettings}

-- a cell: the call that wrote it, and the call that took it
pub record Cell : Type 0 where
  pub sent : SendCall
  pub got : ReceiveCall

-- "A packed cell that a receiver in the sender's settings takes unaltered"
pub record Crosses (x : Cell) : Type 0 where
  pub sends : MeetsSend x.sent
  pub written : x.sent.answer.refusal ≡ 0
  pub settings : InSettings x.sent.state x.got.state
  pub arrived : x.got.cell ≡ x.sent.written
  pub receives : MeetsReceive x.got
  pub taken : x.got.answer.refusal ≡ 0

-- what its call handed out of a run: C×T entries for each cell told missing before it, and its own
abbrev pub handed_from : (ReceiveCall → List ℕ) → Cell → List ℕ
handed_from run x = take (suc x.got.answer.missing * R.used_now x.got.state) (run x.got)

abbrev pub samples_out : List Cell → List ℕ
samples_out cells = flat_map (handed_from (λ r. r.samples_after)) cells

abbrev pub ancillary_out : List Cell → List ℕ
ancillary_out cells = flat_map (handed_from (λ r. r.ancillary_after)) cells

-- request 1: a cell of 56 hex with two channels
pub record TwoOf56 (x : Cell) : Type 0 where
  pub crosses : Crosses x
  pub format : x.sent.state.format ≡ 0x56
  pub channels : x.sent.state.channels ≡ 2

-- and six frames that were imported into it
pub record CarriesFrames (preambles subframes : ℕ → List ℕ) (x : Cell) : Type 0 where
  pub halves : (k : ℕ) → k < 6 → Halves (preambles k) (subframes k)
  pub imported : (k : ℕ) → k < 6 → (import_of (preambles k) (subframes k)).refusal ≡ 0
  pub samples : x.sent.samples ≡ samples_of preambles subframes 6
  pub ancillary : x.sent.ancillary ≡ ancillary_of preambles subframes 6

-- how many frames stand before: six for each cell and for each one told missing
abbrev pub frames_in : List Cell → ℕ
frames_in cells = total_of (λ x. suc x.got.answer.missing * 6) cells

-- request 13: an export of all that a row of cells handed out, and what reading its units gives
pub record ExportsRow (cells : List Cell) (e : ExportCall) : Type 0 where
  pub the_samples : e.samples ≡ samples_out cells
  pub the_ancillary : e.ancillary ≡ ancillary_out cells

pub record RowBack (cells : List Cell) (e : ExportCall) (reads : ℕ → ReadCall) : Type 0 where
  pub none_refused : (k : ℕ) → k < e.answer.units → (reads k).answer.refusal ≡ 0
  pub samples_back : joined (λ k. samples_read (reads k)) e.answer.units ≡ flat_map (λ x. x.sent.samples) cells
  pub ancillary_back : joined (λ k. ancillary_read (reads k)) e.answer.units ≡ flat_map (λ x. x.sent.ancillary) cells
