-- Data units of IEC 62379-5-2 (source document 004, 7.3) with synchronisation information absent, request 13 of document 02: what
-- leaves, and what is read back of one unit. The words of the request and of 7.3 stand beside each definition.
-- Assumes nothing.
use Rattle.std.specs.Prelude.{Bool, cond, not, ◌||◌, List, [], ◌≡◌, ℕ, ◌+◌, ◌*◌, ◌/◌, ◌%◌, ◌^◌, eqb, ltb, length, get_or}
use Rattle.runs.specs.Refusals.{or_else}
use Rattle.runs.specs.Runs.{tab, joined, octets_of, over}
use Rattle.formats.specs.declared.Format.{Format}
use Rattle.formats.specs.Formats.{format_of, settings_refusal}
use Rattle.cells.specs.Cells.{subframe_of, subframe_at, sample_in, ancillary_in}
use Rattle.sender.specs.Sender.{all_below}
use Rattle.units.specs.declared.Exported.{Exported}
use Rattle.units.specs.declared.Entered.{Entered}

-- 7.3.3: "The subframe format shall be as specified in 4.1 of IEC 62365:2009". It is that of a cell, of an entry of the two runs; the
-- sequencing bit, here 0, isn't there without overhead
unfoldable pub subframe_octets : Format → List ℕ → List ℕ → ℕ → List ℕ
subframe_octets f samples ancillary entry = octets_of f.width (subframe_of f (get_or samples entry 0) (get_or ancillary entry 0) 0)

-- "a frame is one subframe for each channel at one sample time"; 7.3.4: "with the cth subframe in a frame carrying the sample for channel
-- number c". The runs hold time after time, channels side by side
unfoldable pub frame_octets : Format → ℕ → List ℕ → List ℕ → ℕ → List ℕ
frame_octets f channels samples ancillary time =
    joined (λ channel. subframe_octets f samples ancillary (time * channels + channel)) channels

-- 7.3.5: "The size of a frame is fixed for each flow": in octets
abbrev pub frame_size : Format → ℕ → ℕ
frame_size f channels = channels * f.width

-- "as many as fit a stated size"
abbrev pub fit_of : Format → ℕ → ℕ → ℕ
fit_of f channels size = size / frame_size f channels

-- "a data unit holds whole frames, as many as fit a stated size, the last one perhaps fewer": how many frames unit k has
unfoldable pub frames_in : ℕ → ℕ → ℕ → ℕ
frames_in frames fit k = cond (ltb k (frames / fit)) fit (frames % fit)

-- how many units there are: the full ones, and one more where frames are left
unfoldable pub units_of : ℕ → ℕ → ℕ
units_of frames fit = frames / fit + cond (eqb (frames % fit) 0) 0 1

-- unit k, where `fit` frames make a full one
unfoldable pub unit_octets : Format → ℕ → List ℕ → List ℕ → ℕ → ℕ → List ℕ
unit_octets f channels samples ancillary fit k =
    joined (λ j. frame_octets f channels samples ancillary (k * fit + j)) (frames_in (length samples / channels) fit k)

-- "the data units end to end"
unfoldable pub export_octets : Format → ℕ → List ℕ → List ℕ → ℕ → List ℕ
export_octets f channels samples ancillary fit =
    joined (unit_octets f channels samples ancillary fit) (units_of (length samples / channels) fit)

-- their octets: as many subframes as there are entries
abbrev pub export_size : Format → List ℕ → ℕ
export_size f samples = length samples * f.width

-- 5: "for unequal runs or a part frame"; the runs are told by their lengths
unfoldable pub runs_refused : ℕ → ℕ → ℕ → Bool
runs_refused channels samples ancillary = not (eqb ancillary samples) || not (eqb (samples % channels) 0)

-- "6 as in 01": "a sample too large for its bits; ancillary above 15, or non-zero where there is none"
unfoldable pub values_refused : Format → List ℕ → List ℕ → Bool
values_refused f samples ancillary = not (all_below (2 ^ f.sample_bits) samples) || not (all_below (2 ^ f.ancillary_bits) ancillary)

-- 26: "Only the seven base formats without overhead may leave this way."
abbrev pub has_overhead : Format → Bool
has_overhead f = not (eqb f.overhead_bits 0)

-- "1, 2 as in 01" (order 0 is never refused), "5 for unequal runs or a part frame .., 6 as in 01, then 26 for a format with overhead, 27
-- for a size below one frame, 28 for too little room"
unfoldable pub export_refusal : ℕ → ℕ → ℕ → List ℕ → List ℕ → ℕ → ℕ
export_refusal octet channels size samples ancillary room =
    or_else (settings_refusal octet channels 0)
    (cond (runs_refused channels (length samples) (length ancillary)) 5
    (cond (values_refused (format_of octet) samples ancillary) 6
    (cond (has_overhead (format_of octet)) 26
    (cond (ltb size (frame_size (format_of octet) channels)) 27
    (cond (ltb room (export_size (format_of octet) samples)) 28 0)))))

-- "octets written, octets of a full unit, how many units"
abbrev pub exported : Format → ℕ → ℕ → List ℕ → Exported
exported f channels size samples =
    record {
      refusal = 0;
      octets = export_size f samples;
      full = fit_of f channels size * frame_size f channels;
      units = units_of (length samples / channels) (fit_of f channels size);
    }

-- "any other reported number 0"
abbrev pub not_exported : ℕ → Exported
not_exported refusal = record { refusal = refusal; octets = 0; full = 0; units = 0 }

unfoldable pub exported_of : ℕ → ℕ → ℕ → List ℕ → List ℕ → ℕ → Exported
exported_of octet channels size samples ancillary room =
    cond (eqb (export_refusal octet channels size samples ancillary room) 0)
    (exported (format_of octet) channels size samples)
    (not_exported (export_refusal octet channels size samples ancillary room))

-- what is written from the start of the lent octets: nothing where the export is refused
unfoldable pub export_gives : ℕ → ℕ → ℕ → List ℕ → List ℕ → ℕ → List ℕ
export_gives octet channels size samples ancillary room =
    cond (eqb (export_refusal octet channels size samples ancillary room) 0)
    (export_octets (format_of octet) channels samples ancillary (fit_of (format_of octet) channels size))
    []

-- the whole promise of an export: "what is past them stays"
pub record Exports (octet channels size : ℕ) (samples ancillary out : List ℕ) (answer : Exported) (out₁ : List ℕ) : Type 0 where
  pub answered : answer ≡ exported_of octet channels size samples ancillary (length out)
  pub out_after : out₁ ≡ over (export_gives octet channels size samples ancillary (length out)) out

-- in reading, 5: "for unequal runs or a part frame (in reading also an empty unit)"; unit and runs are told by their lengths
unfoldable pub unit_refused : ℕ → ℕ → ℕ → ℕ → Bool
unit_refused frame unit samples ancillary = not (eqb ancillary samples) || (eqb unit 0 || not (eqb (unit % frame) 0))

-- 7.3.5: "the number of frames in a data unit can be deduced from the size of the data unit": so the number of its entries
abbrev pub entries_in : Format → ℕ → ℕ
entries_in f unit = unit / f.width

-- 1, 2, 5, 26, 28; 6 can't be: whatever the octets, they make samples and ancillary numbers of the format
unfoldable pub read_refusal : ℕ → ℕ → ℕ → ℕ → ℕ → ℕ
read_refusal octet channels unit samples ancillary =
    or_else (settings_refusal octet channels 0)
    (cond (unit_refused (frame_size (format_of octet) channels) unit samples ancillary) 5
    (cond (has_overhead (format_of octet)) 26
    (cond (ltb samples (entries_in (format_of octet) unit)) 28 0)))

unfoldable pub entered_of : ℕ → ℕ → ℕ → ℕ → ℕ → Entered
entered_of octet channels unit samples ancillary =
    cond (eqb (read_refusal octet channels unit samples ancillary) 0)
    (record { refusal = 0; entries = entries_in (format_of octet) unit })
    (record { refusal = read_refusal octet channels unit samples ancillary; entries = 0 })

-- "Reading the units back gives every sample and ancillary bit": what is read off each subframe of a unit
unfoldable pub read_off : (ℕ → ℕ) → Format → List ℕ → List ℕ
read_off part f unit = tab (λ entry. part (subframe_at f unit entry)) (entries_in f (length unit))

-- what one run is given: nothing where the call is refused
unfoldable pub read_gives : ℕ → ℕ → List ℕ → ℕ → ℕ → List ℕ → List ℕ
read_gives octet channels unit samples ancillary entries =
    cond (eqb (read_refusal octet channels (length unit) samples ancillary) 0) entries []

-- the whole promise of reading a unit: "what is past the unit's entries stays"
pub record Reads (octet channels : ℕ) (unit samples ancillary : List ℕ) (answer : Entered) (samples₁ ancillary₁ : List ℕ) : Type 0 where
  pub answered : answer ≡ entered_of octet channels (length unit) (length samples) (length ancillary)
  pub samples_after : samples₁
      ≡ over (read_gives octet channels unit (length samples) (length ancillary) (read_off (sample_in (format_of octet)) (format_of octet) unit)) samples
  pub ancillary_after : ancillary₁
      ≡ over (read_gives octet channels unit (length samples) (length ancillary) (read_off (ancillary_in (format_of octet)) (format_of octet) unit)) ancillary
