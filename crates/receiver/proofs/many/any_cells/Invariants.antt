-- `receiver::many::any_cells` meets its contract.
use Prim.Native.Nat.{◌*◌}
use Rattle.formats.specs.Settings.{settled_as}
use Rattle.receiver.specs.Unpacking.{used_in, Room, Blank}
use Rattle.receiver.proofs.Spread.{Spread}
use Rattle.receiver.proofs.many.any_cells.Given as goal

abbrev pub invariant-loop-k : goal.invariant-loop-k
invariant-loop-k l = Room l.missing (l.records * used_in (settled_as l.set)) l.initial.samples l.initial.ancillary l.initial.marks
    × Spread (settled_as l.set) l.octets l.place l.records l.missing l.initial.samples l.initial.ancillary l.initial.marks l.k l.samples l.ancillary l.marks
    × Blank l.set.format l.missing (l.records * used_in (settled_as l.set)) l.initial.ancillary
