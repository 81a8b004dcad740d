-- `receiver::entries::missing_entries` meets its contract.
-- Assumes nothing.
use mathlib.Core.Path.{◌∙◌, sym}
use native.Mathlib.Omega.{arith}
use Rattle.receiver.proofs.Unpacking.{front_filled, from_front}
use Rattle.receiver.proofs.entries.missing_entries.Goals as goal

pub returns : goal.returns
returns c = let a = c.args in
    record {
      samples_are = front_filled a.samples.now a.missing 0 (omega (arith, c.requires.samples_room)) c.fill.ensures;
      ancillary_is =
          front_filled a.ancillary.now a.missing 0 (omega (arith, c.requires.ancillary_room)) c.fill-2.ensures
          ∙ sym (from_front a.ancillary.now _);
      marks_are =
          front_filled a.marks.now a.missing 2 (omega (arith, c.requires.marks_room)) c.fill-3.ensures
          ∙ sym (from_front a.marks.now _);
    }
