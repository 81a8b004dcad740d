-- `units::pack::put` meets its contract: octets are filled with the octets of the number.
-- Assumes nothing.
use mathlib.Core.Path.{◌∙◌, ap}
use Prim.Native.Nat.{ℕ, ◌+◌}
use native.Mathlib.Omega.{arith}
use lib.ListN.{take, drop}
use mathlib.Core.List.{◌++◌}
use Rattle.runs.specs.Runs.{octets_of}
use Rattle.runs.proofs.Filling.{turned, done}
use Rattle.runs.proofs.Laws.{length_octets, octet_at}
use Rattle.units.proofs.pack.put.Goals as goal

pub loop-i-preserved : goal.loop-i-preserved
loop-i-preserved c = let a = c.args in
    turned a.out.now a.at (octets_of a.width a.number) c.loop-i.invariant
    (omega (arith, length_octets a.width a.number)) (omega (arith, length_octets a.width a.number))
    (octet_at a.width a.number c.loop-i.i c.loop-i-test.true)

pub returns : goal.returns
returns c = let a = c.args in
    done a.out.now a.at (octets_of a.width a.number) c.loop-i.invariant
    (omega (arith, length_octets a.width a.number)) ∙ ap
    (λ (n : ℕ). take a.at a.out.now ++ (octets_of a.width a.number) ++ drop (a.at + n) a.out.now)
    (length_octets a.width a.number)
