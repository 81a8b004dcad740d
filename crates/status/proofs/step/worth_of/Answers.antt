-- `status::step::worth_of` meets its contract.
-- Assumes nothing.
use Prim.Native.Nat.{◌%◌}
use native.Mathlib.Nat.{one-mul}
use native.Mathlib.Omega.{arith}
use lib.Pow.{shl_exact}
use Rattle.status.proofs.step.worth_of.Goals as goal

pub returns : goal.returns
returns c = rw (shl_exact {a = 1} 1 (c.args.k % 8) 8 (omega arith) (omega arith)) (one-mul _)
