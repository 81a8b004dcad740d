-- `figures::closed` meets its contract.
-- Assumes nothing.
use mathlib.Core.Path.{refl, sym, ◌∙◌}
use Rattle.refusals.specs.Refusals.{number_of}
use Rattle.figures.proofs.Adding.{closed_many, closed_few, few_row}
use Rattle.figures.proofs.closed.Goals as goal

pub returns-then-too_many : goal.returns-then-too_many
unfolding number_of
returns-then-too_many c = closed_many _ (sym c.too_many.ensures ∙ c.if-too_many.true) refl

pub row_of-requires : goal.row_of-requires
row_of-requires c = few_row _ (sym c.too_many.ensures ∙ c.if-too_many.false)

pub returns : goal.returns
returns c = closed_few _ (sym c.too_many.ensures ∙ c.if-too_many.false) c.row_of.ensures
