-- `management::ports::best_fit` meets its contract. The loop: of so many ports the one that fits best.
use mathlib.Core.Path.{◌≡◌}
use Prim.Native.Nat.{◌≤◌}
use Rattle.management.specs.Ports.{fewest}
use Rattle.management.proofs.Fits.{fit}
use Rattle.management.proofs.ports.best_fit.Given as goal

abbrev pub invariant-loop-port : goal.invariant-loop-port
invariant-loop-port l = (fit l.fewest l.best ≡ fewest l.ports l.asked l.port) × (l.fewest ≤ 4) × (l.fewest ≡ 4 → l.best ≡ 0)
