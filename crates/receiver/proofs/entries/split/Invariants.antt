-- `receiver::entries::split` meets its contract.
use Rattle.runs.proofs.Filling.{Filled}
use Rattle.cells.specs.Cells.{sample_in, ancillary_in, mark_in}
use Rattle.receiver.specs.Unpacking.{held}
use Rattle.receiver.proofs.entries.split.Given as goal

abbrev pub invariant-loop-i : goal.invariant-loop-i
invariant-loop-i l = Filled l.samples l.initial.samples l.at (held (sample_in l.format) l.initial.samples l.at l.used) l.i
    × Filled l.ancillary l.initial.ancillary l.at (held (ancillary_in l.format) l.initial.samples l.at l.used) l.i
    × Filled l.marks l.initial.marks l.at (held (mark_in l.format) l.initial.samples l.at l.used) l.i
