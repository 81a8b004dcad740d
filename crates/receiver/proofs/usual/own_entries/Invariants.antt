-- `receiver::usual::own_entries` meets its contract.
use Rattle.receiver.proofs.AllSlots.{Entered}
use Rattle.receiver.proofs.usual.own_entries.Given as goal

abbrev pub invariant-loop-i : goal.invariant-loop-i
invariant-loop-i l = Entered l.cell l.at l.initial.samples l.initial.ancillary l.initial.marks l.samples l.ancillary l.marks l.i
