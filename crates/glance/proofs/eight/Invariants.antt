-- The loop of `glance::eight`: the octets before this one, packed.
use Rattle.glance.specs.Code.{Eight}
use Rattle.glance.proofs.eight.Given as goal

abbrev pub invariant-loop-i : goal.invariant-loop-i
invariant-loop-i l = Eight l.cell l.at l.i l.number
