-- `units::pack::fill` meets its contract.
-- Assumes nothing.
use mathlib.Core.Path.{refl}
use Rattle.units.proofs.Packing.{filling_begun, filling_on}
use Rattle.units.proofs.pack.fill.Goals as goal

pub loop-i-init : goal.loop-i-init
loop-i-init c = let a = c.args in
    filling_begun a.base a.width a.samples.now a.ancillary.now a.out.now c.requires

pub loop-i-preserved : goal.loop-i-preserved
loop-i-preserved c = let put = c.put in
    let a = c.args in
    filling_on a.base a.width a.samples.now a.ancillary.now a.out.now c.requires
    c.loop-i.invariant c.loop-i-test.true c.from.ensures refl put.ensures put.auto.out
