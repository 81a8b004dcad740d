-- What request 9 says of two logs that a receiver runs over.
-- Assumes nothing.
use mathlib.Core.List.{flat_map}
use Rattle.std.specs.Prelude.{◌≡◌}
use Rattle.reading.specs.Heard.{Heard, end_of}
use Rattle.reading.specs.Reading.{Reading, fresh_of}

-- "Running the receiver over the new log gives the same samples, ancillary and marks as over the old one up to its first framing
-- fault"; and it ends in the same state
pub record SameLine (new old : Reading) : Type 0 where
  pub header : new.header ≡ old.header
  pub samples : flat_map (λ (h : Heard). h.samples) new.heard ≡ flat_map (λ (h : Heard). h.samples) old.heard
  pub ancillary : flat_map (λ (h : Heard). h.ancillary) new.heard ≡ flat_map (λ (h : Heard). h.ancillary) old.heard
  pub marks : flat_map (λ (h : Heard). h.marks) new.heard ≡ flat_map (λ (h : Heard). h.marks) old.heard
  pub state : end_of (fresh_of new.header) new.heard ≡ end_of (fresh_of old.header) old.heard
