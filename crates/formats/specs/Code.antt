-- Words of the code, which document 01 doesn't have: checks 1 to 3 by S, and the settings that have a way of their own.
-- Assumes nothing.
use Rattle.std.specs.Prelude.{Bool, false, cond, not, ◌&&◌, ◌||◌, ℕ, eqb, ltb, Option, Some, None}
use Rattle.formats.specs.declared.Format.{Format}
use Rattle.formats.specs.Settled.{Settled}
use Rattle.formats.specs.Formats.{is_listed, format_of}

-- the format of an octet of the fourteen, and none for any other
abbrev pub found_format : ℕ → Option Format
found_format octet = cond (is_listed octet) (Some (format_of octet)) None

-- checks 1 to 3 by S, which is 0 where there is no format
abbrev pub refusal_by : ℕ → ℕ → ℕ → ℕ
refusal_by slots channels order =
    cond (eqb slots 0) 1 (cond (eqb channels 0 || ltb slots channels) 2 (cond (ltb 1 order) 3 0))

-- 56 hex in order 0 with one channel or two
unfoldable pub is_usual : ℕ → ℕ → ℕ → Bool
is_usual octet channels order = eqb octet 0x56 && (eqb order 0 && (not (ltb channels 1) && ltb channels 3))

-- what it settles, by C and T
abbrev pub usual_with : ℕ → ℕ → Settled
usual_with channels times =
    record {
      refusal = 0;
      format = record { sample_bits = 24; ancillary_bits = 4; overhead_bits = 4; width = 4; slots = 12 };
      channels = channels;
      times = times;
      by_channel = false;
    }
