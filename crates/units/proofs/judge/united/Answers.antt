-- `units::judge::united` meets its contract.
-- Assumes nothing.
use native.Mathlib.Omega.{arith}
use Rattle.sender.proofs.Laws.{united_on, united_done}
use Rattle.units.proofs.judge.united.Goals as goal

pub loop-i-preserved : goal.loop-i-preserved
loop-i-preserved c = let less = c.loop-i-test.true in
    let inv = c.loop-i.invariant in
    (united_on inv.0 less, united_on inv.1 (omega (arith, less, c.requires)))

pub returns : goal.returns
returns c = let inv = c.loop-i.invariant in
    (united_done inv.0 c.loop-i-test.false, united_done inv.1 (omega (arith, c.loop-i-test.false, c.requires)))
