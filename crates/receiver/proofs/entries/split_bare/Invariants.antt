-- `receiver::entries::split_bare` meets its contract.
use Prim.Native.Nat.{◌/◌, ◌%◌}
use Rattle.runs.proofs.Filling.{Filled}
use Rattle.receiver.specs.Unpacking.{held}
use Rattle.receiver.proofs.entries.split_bare.Given as goal

abbrev pub invariant-loop-i : goal.invariant-loop-i
invariant-loop-i l = Filled l.samples l.initial.samples l.at (held (λ x. x / 16) l.initial.samples l.at l.used) l.i
    × Filled l.ancillary l.initial.ancillary l.at (held (λ x. x % 16) l.initial.samples l.at l.used) l.i
