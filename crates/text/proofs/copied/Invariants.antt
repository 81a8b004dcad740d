-- `text::copied` meets its contract. The loop fills the run from the place on.
use lib.ListN.{take}
use Rattle.runs.proofs.Filling.{Filled}
use Rattle.text.proofs.copied.Given as goal

abbrev pub invariant-loop-i : goal.invariant-loop-i
invariant-loop-i l = Filled l.run l.initial.run l.place (take l.count l.octets) l.i
