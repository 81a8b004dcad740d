-- `status::check::octet_down` meets its contract: the loop is the division, a bit a turn.
use mathlib.Core.Path.{◌≡◌}
use Prim.Native.Nat.{ℕ, ◌<◌, ◌/◌, ◌%◌, ◌^◌}
use Rattle.runs.specs.Division.{divided}
use Rattle.runs.specs.Runs.{tab}
use Rattle.status.specs.Check.{generator}
use Rattle.status.proofs.check.octet_down.Given as goal

abbrev pub bits : ℕ → ℕ → ℕ
bits octet j = octet / 2 ^ j % 2

-- the rest is that of the division by the first j bits
abbrev pub invariant-loop-j : goal.invariant-loop-j
invariant-loop-j l = (l.now < 256) × (l.now ≡ divided 8 generator l.rest (tab (bits l.octet) l.j))
