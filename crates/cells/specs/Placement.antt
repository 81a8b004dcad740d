-- Placement, document 01: C channels at T times in the first C×T slots. `by_channel_of` is order 1.
-- Assumes nothing.
use Rattle.std.specs.Prelude.{ℕ, ◌+◌, ◌*◌, ◌/◌, ◌%◌, Bool, cond, List, nat_lt, slice_index}
use Rattle.formats.specs.Formats.{times_of, format_of}

-- "Order 0: channel c at time t is in slot t×C + c. Order 1: slot c×T + t."
unfoldable pub slot_of : Bool → ℕ → ℕ → ℕ → ℕ → ℕ
slot_of by_channel_of channels times channel time = cond by_channel_of (channel * times + time) (time * channels + channel)

-- "C times T slots are used": C×T, by the octet and C
abbrev pub used_of : ℕ → ℕ → ℕ
used_of octet channels = channels * times_of (format_of octet).slots channels

-- "Sample runs hold time after time, channels side by side": the slot of a run's entry
unfoldable pub slot_of_entry : Bool → ℕ → ℕ → ℕ → ℕ
slot_of_entry by_channel_of channels times entry = slot_of by_channel_of channels times (entry % channels) (entry / channels)

-- the converse: the entry of a used slot
unfoldable pub entry_of_slot : Bool → ℕ → ℕ → ℕ → ℕ
entry_of_slot by_channel_of channels times slot = cond by_channel_of (slot % times * channels + slot / times) slot

-- "C times T slots are used, the first ones": what a slot carries of a run, and "Unused slots have sample and ancillary 0"
unfoldable pub carried : Bool → ℕ → ℕ → List ℕ → ℕ → ℕ
carried by_channel_of channels times run slot =
    cond (nat_lt slot (channels * times)) (slice_index run (entry_of_slot by_channel_of channels times slot)) 0
