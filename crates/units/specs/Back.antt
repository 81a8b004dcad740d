-- The words of the theorems on whole calls: the units of an export as its answer tells them, and readings of them.
-- Assumes nothing.
use Rattle.std.specs.Prelude.{Bool, not, ◌&&◌, List, [], ◌∷◌, ◌≡◌, ℕ, suc, ◌+◌, ◌*◌, ◌≤◌, ◌<◌, eqb, length, take, drop, get_or}
use Rattle.runs.specs.Runs.{joined}
use Rattle.formats.specs.Formats.{format_of, settings_refusal}
use Rattle.cells.specs.Cells.{subframe_at, sample_in, ancillary_in}
use Rattle.units.specs.declared.Exported.{Exported}
use Rattle.units.specs.declared.Entered.{Entered}
use Rattle.units.specs.Units.{frame_octets, frame_size, has_overhead, export_refusal, entries_in, read_refusal, Exports, Reads}

-- a call of `export_units` and what it left
pub record ExportCall : Type 0 where
  pub octet : ℕ
  pub channels : ℕ
  pub size : ℕ
  pub samples : List ℕ
  pub ancillary : List ℕ
  pub out : List ℕ
  pub answer : Exported
  pub out_after : List ℕ

abbrev pub MeetsExport : ExportCall → Type 0
MeetsExport e = Exports e.octet e.channels e.size e.samples e.ancillary e.out e.answer e.out_after

-- a call of `read_unit` and what it left
pub record ReadCall : Type 0 where
  pub octet : ℕ
  pub channels : ℕ
  pub unit : List ℕ
  pub samples : List ℕ
  pub ancillary : List ℕ
  pub answer : Entered
  pub samples_after : List ℕ
  pub ancillary_after : List ℕ

abbrev pub MeetsRead : ReadCall → Type 0
MeetsRead r = Reads r.octet r.channels r.unit r.samples r.ancillary r.answer r.samples_after r.ancillary_after

-- unit k, cut out of the octets that an export left by what its answer tells
abbrev pub unit_of : ExportCall → ℕ → List ℕ
unit_of e k = take e.answer.full (drop (k * e.answer.full) (take e.answer.octets e.out_after))

-- "a data unit holds whole frames, as many as fit a stated size, the last one perhaps fewer"; 7.3.5: "Each data unit shall contain one or
-- more frames. Each frame shall be contained within a single data unit."
pub record HoldsFrames (e : ExportCall) (k : ℕ) : Type 0 where
  -- its frames are this many, from this one on, which stands where k full units end
  pub first : ℕ
  pub frames : ℕ
  pub place : first * frame_size (format_of e.octet) e.channels ≡ k * e.answer.full
  pub whole : unit_of e k ≡ joined (λ j. frame_octets (format_of e.octet) e.channels e.samples e.ancillary (first + j)) frames
  pub some : 1 ≤ frames
  pub within : frames * frame_size (format_of e.octet) e.channels ≤ e.size
  -- all but the last are full: one frame more wouldn't fit
  pub full : suc k < e.answer.units → e.size < suc frames * frame_size (format_of e.octet) e.channels

-- "one subframe for each channel at one sample time": subframe c of the frame of time t
abbrev pub subframe_in : ExportCall → ℕ → ℕ → ℕ
subframe_in e time channel =
    subframe_at (format_of e.octet) (frame_octets (format_of e.octet) e.channels e.samples e.ancillary time) channel

-- it has the sample and the ancillary number of channel c at time t
pub record CarriesChannel (e : ExportCall) (time channel : ℕ) : Type 0 where
  pub sample_there : sample_in (format_of e.octet) (subframe_in e time channel) ≡ get_or e.samples (time * e.channels + channel) 0
  pub ancillary_there : ancillary_in (format_of e.octet) (subframe_in e time channel) ≡ get_or e.ancillary (time * e.channels + channel) 0

-- a reading of unit k in the export's settings, with room: two runs of equal length, as long as the unit's entries
pub record ReadsUnit (e : ExportCall) (k : ℕ) (r : ReadCall) : Type 0 where
  pub same_octet : r.octet ≡ e.octet
  pub same_channels : r.channels ≡ e.channels
  pub the_unit : r.unit ≡ unit_of e k
  pub equal : length r.ancillary ≡ length r.samples
  pub room : entries_in (format_of e.octet) (length r.unit) ≤ length r.samples

-- what a reading handed out: as many entries as its answer tells
abbrev pub samples_read : ReadCall → List ℕ
samples_read r = take r.answer.entries r.samples_after

abbrev pub ancillary_read : ReadCall → List ℕ
ancillary_read r = take r.answer.entries r.ancillary_after

-- "Reading the units back gives every sample and ancillary bit": unit after unit, the runs as they left
pub record BackWhole (e : ExportCall) (reads : ℕ → ReadCall) : Type 0 where
  pub none_refused : (k : ℕ) → k < e.answer.units → (reads k).answer.refusal ≡ 0
  pub samples_back : joined (λ k. samples_read (reads k)) e.answer.units ≡ e.samples
  pub ancillary_back : joined (λ k. ancillary_read (reads k)) e.answer.units ≡ e.ancillary

-- demand 1: the request's refusal of a call, and what a refused one leaves: "nothing lent is written", "any other reported number 0"
abbrev pub export_table : ExportCall → ℕ
export_table e = export_refusal e.octet e.channels e.size e.samples e.ancillary (length e.out)

pub record ExportedNothing (e : ExportCall) : Type 0 where
  pub out_as_lent : e.out_after ≡ e.out
  pub no_octets : e.answer.octets ≡ 0
  pub no_full : e.answer.full ≡ 0
  pub no_units : e.answer.units ≡ 0

abbrev pub read_table : ReadCall → ℕ
read_table r = read_refusal r.octet r.channels (length r.unit) (length r.samples) (length r.ancillary)

pub record EnteredNothing (r : ReadCall) : Type 0 where
  pub samples_as_lent : r.samples_after ≡ r.samples
  pub ancillary_as_lent : r.ancillary_after ≡ r.ancillary
  pub no_entries : r.answer.entries ≡ 0

-- "the seven base formats without overhead"
abbrev pub seven : List ℕ
seven = 0x02 ∷ 0x04 ∷ 0x06 ∷ 0x08 ∷ 0x43 ∷ 0x45 ∷ 0x47 ∷ []

-- an octet that neither 1 nor 26 is given for
unfoldable pub may_leave : ℕ → Bool
may_leave octet = eqb (settings_refusal octet 1 0) 0 && not (has_overhead (format_of octet))
