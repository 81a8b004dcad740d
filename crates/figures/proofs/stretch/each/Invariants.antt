-- `figures::stretch::each` meets its contract. The loop goes from record to record.
use Prim.Native.Nat.{◌+◌, ◌*◌, ◌-◌}
use Rattle.formats.specs.Settings.{settled_as}
use Rattle.figures.proofs.Passed.{Walking}
use Rattle.figures.proofs.stretch.each.Given as goal

abbrev pub invariant-loop-i : goal.invariant-loop-i
invariant-loop-i l = Walking (settled_as l.set) l.initial.noted.state l.octets l.place l.records l.noted (l.place + 49 * l.i) (l.records - l.i)
