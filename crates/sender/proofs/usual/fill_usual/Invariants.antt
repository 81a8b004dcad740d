-- `sender::usual::fill_usual` meets its contract.
use Rattle.std.proofs.Common.{length}
use Rattle.formats.specs.Settings.{settled_as}
use Rattle.sender.proofs.Filling.{Filling}
use Rattle.sender.proofs.usual.fill_usual.Given as goal

abbrev pub invariant-loop-slot : goal.invariant-loop-slot
invariant-loop-slot l = Filling (settled_as l.fn.set) l.sequence l.samples l.ancillary l.initial.cell (length l.samples) l.cell l.slot
