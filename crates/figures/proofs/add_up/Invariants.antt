-- `figures::add_up` meets its contract. The loop: the lengths so far and what is left are all octets.
use mathlib.Core.Path.{◌≡◌}
use Prim.Native.Nat.{◌+◌}
use lib.ListN.{take}
use Rattle.figures.specs.Sheets.{sum_of}
use Rattle.figures.proofs.add_up.Given as goal

abbrev pub invariant-loop-length : goal.invariant-loop-length
invariant-loop-length l = sum_of (take l.length-index l.lengths) + l.left ≡ l.octets
