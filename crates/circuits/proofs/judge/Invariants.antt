-- The loop of `circuits::judge`: what is said of the whole plan is said of the circuits that are left.
use lib.ListN.{drop}
use Rattle.circuits.proofs.Laws.{Judging}
use Rattle.circuits.proofs.judge.Given as goal

abbrev pub invariant-loop-i : goal.invariant-loop-i
invariant-loop-i l = Judging l.slots l.channels l.frequency l.shares l.allowances l.i l.carried (drop l.i l.shares) (drop l.i l.allowances)
