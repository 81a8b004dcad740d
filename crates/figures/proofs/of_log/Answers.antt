-- `figures::of_log` meets its contract.
-- Assumes nothing.
use mathlib.Core.Path.{refl}
use Prim.Native.Nat.{◌≤◌}
use native.Mathlib.Omega.{arith}
use lib.ListN.{length}
use Rattle.figures.proofs.Walks.{log_counts}
use Rattle.figures.proofs.of_log.Goals as goal
use Rattle.figures.proofs.of_log.Goals.{Start}

fits : (c : Start) → length c.args.log.now ≤ 18446744073709551615
fits c = omega (arith, c.well_formed)

pub returns : goal.returns
returns c = log_counts c.start.ensures refl (fits (goal.at.returns c).Start) c.take-tally.ensures
