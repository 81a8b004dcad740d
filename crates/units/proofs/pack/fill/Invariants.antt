-- `units::pack::fill` meets its contract.
use Rattle.units.proofs.Packing.{Filling}
use Rattle.units.proofs.pack.fill.Given as goal

abbrev pub invariant-loop-i : goal.invariant-loop-i
invariant-loop-i l = Filling l.base l.width l.samples l.ancillary l.initial.out l.out l.i
