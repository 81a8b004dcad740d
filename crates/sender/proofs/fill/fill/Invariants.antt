-- `sender::fill::fill` meets its contract.
use Rattle.std.proofs.Common.{◌≡◌, ◌/◌, ◌^◌, length}
use Rattle.formats.specs.Settings.{settled_as}
use Rattle.sender.specs.Packing.{entry_at}
use Rattle.sender.proofs.Filling.{Filling}
use Rattle.sender.proofs.fill.fill.Given as goal

abbrev pub invariant-loop-slot : goal.invariant-loop-slot
invariant-loop-slot l = record {
  filling : Filling (settled_as l.set) l.sequence l.samples l.ancillary l.initial.cell (length l.samples) l.cell l.slot;
  entry_is : l.entry ≡ entry_at (settled_as l.set) l.slot;
  rest_is : l.rest ≡ l.sequence / 2 ^ l.slot;
}
