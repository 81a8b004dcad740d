-- `status::run::octet_at` meets its contract. The loop: so many entries add a bit, and the octet has their bits.
-- Assumes nothing.
use native.Mathlib.Omega.{arith}
use Rattle.status.proofs.Eights.{turn_fits, turn_more}
use Rattle.status.proofs.run.octet_at.Goals as goal

pub overflow_add-octet : goal.overflow_add-octet
overflow_add-octet c = record { fits = turn_fits _ _ _ _ c.loop-j.invariant (omega arith) (omega (arith, c.if-number-gt7.false)) }

pub loop-j-preserved : goal.loop-j-preserved
loop-j-preserved c = turn_more _ _ _ _ c.loop-j.invariant (omega arith) (omega (arith, c.if-number-gt7.false))
    (omega (arith, c.if-marks-place-gt1.false))
