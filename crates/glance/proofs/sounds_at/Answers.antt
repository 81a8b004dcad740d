-- `glance::sounds_at` meets its contract.
-- Assumes nothing.
use Rattle.glance.proofs.Laws.{zero_silent, by_mark}
use Rattle.glance.proofs.sounds_at.Goals as goal

pub returns-then-sample-eq0 : goal.returns-then-sample-eq0
returns-then-sample-eq0 c = zero_silent _ _ _ c.subframe_in-subframe.ensures.0 c.if-sample-eq0.true

pub returns : goal.returns
returns c = by_mark _ _ _ c.subframe_in-subframe.ensures.0 c.if-sample-eq0.false
    c.mark_in.ensures.0
