-- `pieces::stretch_at` meets its contract.
-- Assumes nothing.
use Rattle.std.proofs.Common.{refl, arith}
use Rattle.pieces.proofs.Stretches.{stretch_fits, past_none, past_some}
use Rattle.pieces.proofs.stretch_at.Goals as goal

pub returns-then-records-eq0 : goal.returns-then-records-eq0
returns-then-records-eq0 c = past_none _ _ c.whole_ahead-records.ensures c.if-records-eq0.true

pub overflow_mul-octets : goal.overflow_mul-octets
overflow_mul-octets c = omega (arith, (stretch_fits _ _ _ _ c.whole_ahead-records.ensures).1)

pub overflow_add-next : goal.overflow_add-next
overflow_add-next c = omega (arith, c.if-records-eq0.false, (stretch_fits _ _ _ _ c.whole_ahead-records.ensures).0)

pub overflow_sub-left : goal.overflow_sub-left
overflow_sub-left c = omega (arith, (stretch_fits _ _ _ _ c.whole_ahead-records.ensures).1)

pub returns : goal.returns
returns c = past_some _ _ c.whole_ahead-records.ensures c.if-records-eq0.false refl
