-- `sender::pack::fill_idle` meets its contract.
use Rattle.formats.specs.Settings.{settled_as}
use Rattle.std.proofs.Common.{◌-◌, ◌≤◌}
use lib.ListN as L
use Rattle.sender.proofs.Filling.{Filling}
use Rattle.sender.proofs.pack.fill_idle.Given as goal

abbrev pub invariant-loop-slot : goal.invariant-loop-slot
invariant-loop-slot l = (L.length l.samples ≤ l.slot) × Filling (settled_as l.set) l.sequence l.samples l.ancillary l.initial.cell l.set.format.slots l.cell l.slot

abbrev pub decreases-loop-slot : goal.decreases-loop-slot
decreases-loop-slot l = l.set.format.slots - l.slot
