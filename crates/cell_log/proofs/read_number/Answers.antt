-- `cell_log::read_number` meets its contract: what is read in at most three groups is the paper's number.
-- Assumes nothing.
use mathlib.Core.Path.{sym, ◌∙◌}
use Rattle.cell_log.proofs.Groups.{number_agrees}
use Rattle.cell_log.proofs.read_number.Goals as goal

pub returns : goal.returns
returns c = c.number_in.ensures ∙ sym (number_agrees _ _)
