-- `receiver::entries::cleared` meets its contract.
-- Assumes nothing.
use mathlib.Core.Path.{◌∙◌, sym, ap}
use Prim.Native.Nat.{ℕ}
use native.Mathlib.Omega.{arith}
use lib.ListN.{replicate}
use Rattle.runs.specs.Runs.{written}
use Rattle.receiver.proofs.Unpacking.{front_filled, from_front}
use Rattle.receiver.proofs.entries.cleared.Goals as goal

pub returns : goal.returns
returns c = let a = c.args in
    record {
      samples_are = front_filled a.samples.now a.missing 0 (omega (arith, c.requires.samples_room)) c.fill.ensures;
      ancillary_is =
          front_filled a.ancillary.now c.blank_end-blank.result 0
          (omega (arith, c.requires.ancillary_room, c.blank_end-blank.ensures.1)) c.fill-3.ensures
          ∙ sym (from_front a.ancillary.now _)
          ∙ ap (λ (n : ℕ). written a.ancillary.now 0 (replicate n 0)) c.blank_end-blank.ensures.0;
      marks_are =
          front_filled a.marks.now a.missing 2 (omega (arith, c.requires.marks_room)) c.fill-2.ensures
          ∙ sym (from_front a.marks.now _);
    }
