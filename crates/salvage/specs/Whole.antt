-- Octets that were put into a run whole.
-- Assumes nothing.
use Rattle.std.specs.Prelude.{true, ◌≡◌, ℕ, ◌≤◌}
use Rattle.text.specs.declared.Put.{Put}

-- all of them were put, and they are within a run of so many entries
pub record Whole (put : Put) (room : ℕ) : Type 0 where
  pub all : put.whole ≡ true
  pub within : put.octets ≤ room
