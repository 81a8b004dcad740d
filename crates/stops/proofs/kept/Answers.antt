-- `stops::kept` meets its contract.
-- Assumes nothing.
use mathlib.Core.Path.{◌∙◌}
use Rattle.stops.proofs.Places.{none_at, found_at}
use Rattle.stops.proofs.kept.Goals as goal

pub returns-then-run-log : goal.returns-then-run-log
returns-then-run-log c = c.stop_of.ensures ∙ none_at _ _ c.if-run-log.true

pub returns : goal.returns
returns c = c.stop_of-2.ensures ∙ found_at _ _ c.if-run-log.false
