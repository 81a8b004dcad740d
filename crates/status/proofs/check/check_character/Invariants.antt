-- `status::check::check_character` meets its contract: the loop is the division, an octet a turn.
use mathlib.Core.Path.{◌≡◌}
use Prim.Native.Nat.{◌*◌, ◌<◌}
use Rattle.runs.specs.Division.{divided}
use Rattle.runs.specs.Runs.{tab}
use Rattle.status.specs.Check.{coefficient_of, generator}
use Rattle.status.proofs.check.check_character.Given as goal

-- the rest is that of the division of the first k octets' coefficients
abbrev pub invariant-loop-k : goal.invariant-loop-k
invariant-loop-k l = (l.rest < 256) × (l.rest ≡ divided 8 generator 0 (tab (coefficient_of l.fn.block) (8 * l.k)))
