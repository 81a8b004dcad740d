-- `figures::differ` meets its contract.
-- Assumes nothing.
use mathlib.Core.Bool.{not}
use mathlib.Core.Path.{◌∙◌, ap}
use Rattle.figures.proofs.Laws.{differs, agrees}
use Rattle.figures.proofs.differ.Goals as goal

pub returns-then-not-add_up : goal.returns-then-not-add_up
returns-then-not-add_up c = let no = ap not c.if-not-add_up.true in no ∙ differs _ _ _ c.add_up.ensures no

pub returns-else-not-add_up : goal.returns-else-not-add_up
returns-else-not-add_up c = agrees _ _ _ c.add_up.ensures (ap not c.if-not-add_up.false)
