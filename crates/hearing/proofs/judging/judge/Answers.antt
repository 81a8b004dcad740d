-- `hearing::judging::judge` meets its contract.
-- Assumes nothing.
use mathlib.Core.Path.{sym, ◌∙◌}
use Rattle.hearing.proofs.Asked.{judges_not, judges_on}
use Rattle.hearing.proofs.judging.judge.Goals as goal

pub returns-then-refusal-ne0 : goal.returns-then-refusal-ne0
returns-then-refusal-ne0 c = judges_not c.refusal_of-refusal.ensures (λ z. c.if-refusal-ne0.true (c.refusal_of-refusal.ensures ∙ z)) c.refused.ensures

pub shape_of-reports : goal.shape_of-reports
shape_of-reports c = c.walk.auto.reports

pub returns : goal.returns
returns c = judges_on (sym c.refusal_of-refusal.ensures ∙ c.if-refusal-ne0.false) c.walk.ensures
