-- `status::run::steps` meets its contract. The loop: the steps from here on give the same. The measure is what is left of the run.
use mathlib.Core.Path.{◌≡◌}
use Prim.Native.Nat.{◌-◌, ◌≤◌}
use lib.ListN.{length}
use Rattle.status.specs.Run.{ran_from, as_whole}
use Rattle.status.proofs.run.steps.Given as goal

abbrev pub invariant-loop-at : goal.invariant-loop-at
invariant-loop-at l = (l.at ≤ 18446744073709551615)
    × (as_whole l.fn.block (ran_from l.on l.ancillary l.marks (length l.ancillary) l.fn.block l.from) ≡ as_whole l.fn.block (ran_from l.on l.ancillary l.marks (length l.ancillary) l.now l.at))

abbrev pub decreases-loop-at : goal.decreases-loop-at
decreases-loop-at l = length l.ancillary - l.at
