-- What a sent cell holds, sentence by sentence of document 01.
-- Assumes nothing.
use Rattle.std.specs.Prelude.{◌≡◌, ℕ, ◌+◌, ◌*◌, ◌/◌, ◌%◌, ◌^◌, ◌<◌, ◌≤◌, Bool, List, length, ◌≢◌, slice_index}
use Rattle.formats.specs.declared.Format.{Format}
use Rattle.numbers.specs.Numbers.{entry_of, divided_entry}
use Rattle.cells.specs.Placement.{slot_of}
use Rattle.cells.specs.Cells.{guard_in, subframe_at, sample_in, ancillary_in, bit_in, eight_in}

-- cell number `number` with these samples and ancillary numbers of C channels at T times
pub record SentCell (f : Format) (by_channel_of : Bool) (channels times number second : ℕ) (samples ancillary cell : List ℕ) : Type 0 where
  -- "48-octet cell payloads"
  pub octets : length cell ≡ 48
  -- "Sample runs hold time after time, channels side by side": channel c at time t is entry t×C + c, and stands in its slot
  pub sample_at : (channel time : ℕ) → channel < channels → time < times
      → sample_in f (subframe_at f cell (slot_of by_channel_of channels times channel time)) ≡ slice_index samples (time * channels + channel)
  pub ancillary_at_lem : (channel time : ℕ) → channel < channels → time < times
      → ancillary_in f (subframe_at f cell (slot_of by_channel_of channels times channel time)) ≡ slice_index ancillary (time * channels + channel)
  -- "Unused slots have sample and ancillary 0"
  pub unused : (slot : ℕ) → channels * times ≤ slot → slot < f.slots
      → (sample_in f (subframe_at f cell slot) ≡ 0) × (ancillary_in f (subframe_at f cell slot) ≡ 0)
  -- "three protection bits", by V or without it: of what stands in the slot, and "Writing protection 000 in an unused slot, where it is 111" is wrong
  pub protection : (f.overhead_bits ≢ 0) → (slot : ℕ) → slot < f.slots
      → subframe_at f cell slot % 8
      ≡ guard_in f (sample_in f (subframe_at f cell slot)) (ancillary_in f (subframe_at f cell slot))
  pub protection_unused : (f.overhead_bits ≢ 0) → (slot : ℕ) → channels * times ≤ slot → slot < f.slots
      → subframe_at f cell slot % 8 ≡ 7
  -- "Table A.1": the first eight sequencing bits are the number's entry, which is what the division and the even count make of it
  pub number_bits : (f.overhead_bits ≢ 0) → (eight_in f cell ≡ entry_of number) × (eight_in f cell ≡ divided_entry number)
  -- "Bits 9 to 12: the second number, least significant first, where S is at least 12. Later bits are sent as zero"
  pub second_bits : (f.overhead_bits ≢ 0) → 12 ≤ f.slots → (i : ℕ) → i < 4 → bit_in f cell (8 + i) ≡ second / 2 ^ i % 2
  pub later_bits : (f.overhead_bits ≢ 0) → (slot : ℕ) → 12 ≤ slot → slot < f.slots → bit_in f cell slot ≡ 0
