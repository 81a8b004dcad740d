-- Words of the code, which document 01 doesn't have: what checks 1 to 3 settle, as one answer.
-- Assumes nothing.
use Rattle.std.specs.Prelude.{false, cond, ℕ, eqb, Result, Ok, Err}
use Rattle.refusals.specs.declared.Refusal.{Refusal}
use Rattle.refusals.specs.Refusals.{number_of}
use Rattle.formats.specs.declared.Layout.{Layout}
use Rattle.formats.specs.Settled.{Settled}
use Rattle.formats.specs.Formats.{no_format, format_of, times_of, settings_refusal}

-- what is settled where no check refuses
abbrev pub settled : ℕ → ℕ → ℕ → Settled
settled octet channels order =
    record {
      refusal = 0;
      format = format_of octet;
      channels = channels;
      times = times_of (format_of octet).slots channels;
      by_channel = eqb order 1;
    }

-- "Every refusal returns its number .. with any other reported number 0"
abbrev pub unsettled_by : ℕ → Settled
unsettled_by refusal = record { refusal = refusal; format = no_format; channels = 0; times = 0; by_channel = false }

-- what an octet, C and an order settle, or their refusal
unfoldable pub settings_of : ℕ → ℕ → ℕ → Settled
settings_of octet channels order =
    cond (eqb (settings_refusal octet channels order) 0)
    (settled octet channels order)
    (unsettled_by (settings_refusal octet channels order))

-- a layout, which nothing refuses
abbrev pub settled_as : Layout → Settled
settled_as set =
    record {
      refusal = 0;
      format = set.format;
      channels = set.channels;
      times = set.times;
      by_channel = set.by_channel;
    }

-- the code's answer
abbrev pub answered : Result Layout Refusal → Settled
answered (Ok set) = settled_as set
answered (Err refusal) = unsettled_by (number_of refusal)
