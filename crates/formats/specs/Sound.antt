-- Words of the code, which document 01 doesn't have: what all formats share, and what settings bound. That each of the fourteen has it is
-- proved (formats/proofs/Laws). Laws of cells, sending and receiving are then proved once, for all formats.
-- Assumes nothing.
use Rattle.std.specs.Prelude.{◌≡◌, ◌+◌, ◌*◌, ◌%◌, ◌≤◌}
use Rattle.formats.specs.declared.Format.{Format}
use Rattle.formats.specs.Settled.{Settled}

-- of a format: its bits fill whole octets, its slots the cell, and each number has its bounds
pub record Sound (f : Format) : Type 0 where
  pub bits : f.sample_bits + f.ancillary_bits + f.overhead_bits ≡ 8 * f.width
  pub cell : f.slots * f.width ≡ 48
  pub sample_from : 8 ≤ f.sample_bits
  pub sample_to : f.sample_bits ≤ 40
  pub ancillary_fours : f.ancillary_bits % 4 ≡ 0
  pub ancillary_to : f.ancillary_bits ≤ 4
  pub overhead_fours : f.overhead_bits % 4 ≡ 0
  pub overhead_to : f.overhead_bits ≤ 4
  pub width_from : 1 ≤ f.width
  pub width_to : f.width ≤ 6
  pub slots_from : 8 ≤ f.slots
  pub slots_to : f.slots ≤ 48

-- of settings that nothing refuses
pub record Limits (set : Settled) : Type 0 where
  pub sound : Sound set.format
  pub channels_from : 1 ≤ set.channels
  pub times_from : 1 ≤ set.times
  pub used_in_lem : set.channels * set.times ≤ set.format.slots
  pub used_to : set.channels * set.times ≤ 48
  pub sample_to : set.format.sample_bits ≤ 40
  pub ancillary_to : set.format.ancillary_bits ≤ 4
