-- `units::pack::put` meets its contract: octets are filled with the octets of the number.
use Rattle.runs.specs.Runs.{octets_of}
use Rattle.runs.proofs.Filling.{Filled}
use Rattle.units.proofs.pack.put.Given as goal

abbrev pub invariant-loop-i : goal.invariant-loop-i
invariant-loop-i l = Filled l.out l.initial.out l.at (octets_of l.width l.number) l.i
