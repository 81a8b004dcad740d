-- `glance::either_half` meets its contract.
-- Assumes nothing.
use native.Mathlib.Omega.{arith}
use Rattle.glance.proofs.Quiet.{or_blank}
use Rattle.glance.proofs.either_half.Goals as goal

pub eight-requires : goal.eight-requires
eight-requires c = omega (arith, c.requires)

pub eight-requires-2 : goal.eight-requires-2
eight-requires-2 c = omega (arith, c.requires)

pub returns : goal.returns
returns c = or_blank _ _ c.eight.ensures c.eight-2.ensures
