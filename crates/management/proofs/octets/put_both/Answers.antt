-- `management::octets::put_both` meets its contract.
-- Assumes nothing.
use native.Mathlib.Omega.{arith}
use Rattle.management.proofs.Parts.{both_written}
use Rattle.management.proofs.octets.put_both.Goals as goal

pub returns : goal.returns
returns c = let a = c.args in
    both_written a.run.now a.place a.head.now a.tail.now (omega (arith, c.requires)) c.put.ensures
    c.put-2.ensures
