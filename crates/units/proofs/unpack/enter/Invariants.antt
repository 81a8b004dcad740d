-- `units::unpack::enter` meets its contract: two runs are filled side by side.
use Prim.Native.Nat.{◌/◌, ◌%◌}
use Rattle.runs.proofs.Filling.{Filled}
use Rattle.units.proofs.Packing.{read_by}
use Rattle.units.proofs.unpack.enter.Given as goal

abbrev pub invariant-loop-i : goal.invariant-loop-i
invariant-loop-i l = Filled l.samples l.initial.samples 0 (read_by (λ x. x / l.base) l.width l.unit l.entries) l.i
    × Filled l.ancillary l.initial.ancillary 0 (read_by (λ x. x % l.base) l.width l.unit l.entries) l.i
