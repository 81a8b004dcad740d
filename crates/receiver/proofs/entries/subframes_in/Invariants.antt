-- `receiver::entries::subframes_in` meets its contract: the slot goes along with the entry.
use mathlib.Core.Path.{◌≡◌}
use Prim.Native.Nat.{◌≤◌}
use Rattle.runs.proofs.Filling.{Filled}
use Rattle.formats.specs.Settings.{settled_as}
use Rattle.cells.specs.Placement.{slot_of_entry}
use Rattle.receiver.specs.Unpacking.{used_in, own_entries}
use Rattle.receiver.proofs.entries.subframes_in.Given as goal

abbrev pub invariant-loop-i : goal.invariant-loop-i
invariant-loop-i g l = Filled l.run l.initial.run l.at (own_entries (λ x. x) (settled_as l.set) l.cell) l.i
    × (l.slot ≡ slot_of_entry l.set.by_channel l.set.channels l.set.times l.i)
    × (l.count ≤ used_in (settled_as l.set))
