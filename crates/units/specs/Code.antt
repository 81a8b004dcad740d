-- Words of the code, which the request doesn't have: one subframe without overhead as `sample * base + ancillary`, where `base` is 16 for
-- a format with ancillary bits and 1 for one without; what packing and unpacking ask and leave.
-- Assumes nothing.
use Rattle.std.specs.Prelude.{List, ◌++◌, ◌≡◌, ℕ, ◌+◌, ◌*◌, ◌/◌, ◌%◌, ◌^◌, ◌≤◌, ◌<◌, length, get_or, take, drop}
use Rattle.runs.specs.Runs.{tab, joined, octets_of, number_of, over}

-- the octets of an entry's subframe
unfoldable pub entry_octets : ℕ → ℕ → List ℕ → List ℕ → ℕ → List ℕ
entry_octets base width samples ancillary entry = octets_of width (get_or samples entry 0 * base + get_or ancillary entry 0)

-- octets after those of all entries were written from their start
abbrev pub packed : ℕ → ℕ → List ℕ → List ℕ → List ℕ → List ℕ
packed base width samples ancillary out =
    joined (entry_octets base width samples ancillary) (length samples) ++ drop (length samples * width) out

-- what packing asks
pub record Packable (base width : ℕ) (samples ancillary out : List ℕ) : Type 0 where
  pub base_to : base ≤ 16
  pub width_to : width ≤ 6
  pub as_many : length ancillary ≡ length samples
  pub small : (i : ℕ) → get_or samples i 0 < 2 ^ 40
  pub room : length samples * width ≤ length out

-- the number of an entry's subframe
unfoldable pub number_at : ℕ → List ℕ → ℕ → ℕ
number_at width unit entry = number_of (take width (drop (entry * width) unit))

-- what unpacking asks
pub record Unpackable (base width entries : ℕ) (unit samples ancillary : List ℕ) : Type 0 where
  pub base_from : 1 ≤ base
  pub base_to : base ≤ 16
  pub width_to : width ≤ 6
  pub whole : entries * width ≤ length unit
  pub samples_room : entries ≤ length samples
  pub ancillary_room : entries ≤ length ancillary

-- two runs after the subframes of a unit were taken apart into them
pub record Unpacks (base width entries : ℕ) (unit samples ancillary samples₁ ancillary₁ : List ℕ) : Type 0 where
  pub samples_are : samples₁ ≡ over (tab (λ entry. number_at width unit entry / base) entries) samples
  pub ancillary_is : ancillary₁ ≡ over (tab (λ entry. number_at width unit entry % base) entries) ancillary
