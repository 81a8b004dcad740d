-- `receiver::many::usual_cells` meets its contract.
use Prim.Native.Nat.{◌*◌}
use Rattle.receiver.specs.Unpacking.{Room, straight}
use Rattle.receiver.proofs.Spread.{Spread}
use Rattle.receiver.proofs.many.usual_cells.Given as goal

abbrev pub invariant-loop-k : goal.invariant-loop-k
invariant-loop-k l = Room l.missing (l.records * 12) l.initial.samples l.initial.ancillary l.initial.marks
    × Spread straight l.octets l.place l.records l.missing l.initial.samples l.initial.ancillary l.initial.marks l.k l.samples l.ancillary l.marks
