-- `sender::many::row_of` meets its contract. The loop: so many cells are sent.
use Rattle.formats.specs.Settings.{settled_as}
use Rattle.sender.proofs.Cellwise.{Standing}
use Rattle.sender.proofs.many.row_of.Given as goal

abbrev pub invariant-loop-cells : goal.invariant-loop-cells
invariant-loop-cells g l =
    Standing (settled_as l.set) l.indications l.initial.now l.samples l.ancillary l.initial.log l.place l.most l.now l.at l.to l.cells l.log
