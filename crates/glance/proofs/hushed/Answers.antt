-- `glance::hushed` meets its contract.
-- Assumes nothing.
use native.Mathlib.Omega.{arith}
use borrow.Author.Tests.{eqb-true}
use Rattle.glance.proofs.Quiet.{all_clear}
use Rattle.glance.proofs.hushed.Goals as goal

pub either_half-first-requires : goal.either_half-first-requires
either_half-first-requires c = omega (arith, c.requires)

pub either_half-second-requires : goal.either_half-second-requires
either_half-second-requires c = omega (arith, c.requires)

pub either_half-third-requires : goal.either_half-third-requires
either_half-third-requires c = omega (arith, c.requires)

pub returns : goal.returns
returns c = λ t. all_clear _ _ c.masks_for-bits.ensures c.either_half-first.ensures
    c.either_half-second.ensures c.either_half-third.ensures (eqb-true _ 0 t)
