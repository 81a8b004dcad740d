-- `circuits::fill` meets its contract.
-- Assumes nothing.
use native.Mathlib.Omega.{arith}
use Rattle.circuits.proofs.Laws.{filling_turned, filling_done}
use Rattle.circuits.proofs.fill.Goals as goal

pub loop-share-preserved : goal.loop-share-preserved
loop-share-preserved c =
    filling_turned _ _ _ c.loop-share.invariant (omega (arith, c.loop-share.auto.shares, c.loop-share-test.true)) c.min.ensures

pub returns : goal.returns
returns c = filling_done _ _ _ c.loop-share.invariant (omega (arith, c.loop-share.auto.shares, c.loop-share-test.false))
