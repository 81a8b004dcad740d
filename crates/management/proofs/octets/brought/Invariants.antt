-- `management::octets::brought` meets its contract. The loop: so many octets are taken over.
use lib.ListN.{replicate}
use Rattle.runs.proofs.Filling.{Filled}
use Rattle.management.specs.Tables.{brought_to}
use Rattle.management.proofs.octets.brought.Given as goal

abbrev pub invariant-loop-i : goal.invariant-loop-i
invariant-loop-i l = Filled l.octets (replicate 29 0) 0 (brought_to 29 l.message) l.i
