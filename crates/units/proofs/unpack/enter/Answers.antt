-- `units::unpack::enter` meets its contract: two runs are filled side by side.
-- Assumes nothing.
use mathlib.Core.Path.{refl}
use Prim.Native.Nat.{◌/◌, ◌%◌}
use Rattle.units.proofs.Packing.{entering_on, entering_done}
use Rattle.units.proofs.unpack.enter.Goals as goal

pub loop-i-preserved : goal.loop-i-preserved
loop-i-preserved c = let a = c.args in
    let inv = c.loop-i.invariant in
    let less = c.loop-i-test.true in
    let is = c.number_at-number.ensures in
    let unit = a.unit.now in (
      entering_on (λ x. x / a.base) a.width unit a.samples.now a.entries c.requires.samples_room inv.0 less is refl,
      entering_on (λ x. x % a.base) a.width unit a.ancillary.now a.entries c.requires.ancillary_room inv.1 less is refl,
    )

pub returns : goal.returns
returns c = let a = c.args in
    let inv = c.loop-i.invariant in
    let all = c.loop-i-test.false in
    let unit = a.unit.now in
    record {
      samples_are = entering_done (λ x. x / a.base) a.width unit a.samples.now a.entries c.requires.samples_room inv.0 all;
      ancillary_is =
          entering_done (λ x. x % a.base) a.width unit a.ancillary.now a.entries c.requires.ancillary_room inv.1 all;
    }
