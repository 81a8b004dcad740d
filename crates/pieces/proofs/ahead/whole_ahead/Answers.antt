-- `pieces::ahead::whole_ahead` meets its contract: a law for each way that the code takes.
-- Assumes nothing.
use Rattle.std.proofs.Common.{refl, ◌∙◌, arith}
use Rattle.pieces.proofs.Stretches.{least_min, stretch_past, stretch_elsewhere, stretch_inside, stretch_here}
use Rattle.pieces.proofs.ahead.whole_ahead.Goals as goal
use Rattle.pieces.proofs.ahead.whole_ahead.Goals.{then-end-place-via-then-end-place, then-end-place-via-else-end-place+then-standing-ne1, then-end-place-via-else-end-place+else-standing-ne1+then-standing-ne0}

pub returns-then-end-place : goal.returns-then-end-place
returns-then-end-place c =
    elim c.then-end-place.branch [
      | then-end-place-via-then-end-place w ↦ stretch_past _ _ _ _ w.if-end-place.true
      | then-end-place-via-else-end-place+then-standing-ne1 w ↦ stretch_elsewhere _ _ _ _ w.if-standing-ne1.true
      | then-end-place-via-else-end-place+else-standing-ne1+then-standing-ne0 w ↦ stretch_inside _ _ _ _ w.if-standing-ne1.false w.if-standing-ne0.true
    ]

pub whole_among-requires : goal.whole_among-requires
whole_among-requires c = omega (arith, c.if-end-place.false, c.min.ensures)

pub returns : goal.returns
returns c = stretch_here _ _ _ _ c.if-standing-ne1.false c.if-standing-ne0.false refl (c.min-within.ensures ∙ least_min _ _)
    (c.min.ensures ∙ least_min _ _) c.whole_among.ensures.0
