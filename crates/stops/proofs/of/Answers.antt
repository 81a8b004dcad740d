-- `stops::of` meets its contract.
-- Assumes nothing.
use mathlib.Core.Path.{◌∙◌}
use Rattle.stops.proofs.Said.{stop_refused, stop_broken, stop_well, stop_header, stop_cut}
use Rattle.stops.proofs.of.Goals as goal

pub returns-then-standing-eq2 : goal.returns-then-standing-eq2
returns-then-standing-eq2 c = c.stop_of.ensures ∙ stop_refused _ _ c.if-standing-eq2.true

pub returns-then-standing-eq3 : goal.returns-then-standing-eq3
returns-then-standing-eq3 c = c.stop_of-then-standing-eq3.ensures ∙ stop_broken _ _ c.if-standing-eq2.false c.if-standing-eq3.true

pub returns-then-refusal-eq0 : goal.returns-then-refusal-eq0
returns-then-refusal-eq0 c = c.stop_of-then-refusal-eq0.ensures ∙ stop_well _ _ c.if-standing-eq2.false c.if-standing-eq3.false c.end-refusal.ensures
    c.if-refusal-eq0.true

pub returns-then-standing-eq0 : goal.returns-then-standing-eq0
returns-then-standing-eq0 c = c.stop_of-then-standing-eq0.ensures ∙ stop_header _ _ c.if-standing-eq2.false c.if-standing-eq3.false
    c.end-refusal.ensures c.if-refusal-eq0.false c.if-standing-eq0.true

pub returns : goal.returns
returns c = c.stop_of-2.ensures ∙ stop_cut _ _ c.if-standing-eq2.false c.if-standing-eq3.false
    c.end-refusal.ensures c.if-refusal-eq0.false c.if-standing-eq0.false
