-- `figures::stretch::counted` meets its contract.
-- Assumes nothing.
use native.Mathlib.Omega.{arith}
use Rattle.figures.proofs.Walks.{some_noted}
use Rattle.figures.proofs.stretch.counted.Goals as goal

pub over-found-requires : goal.over-found-requires
over-found-requires c = (c.requires.0, c.requires.2)

pub returns : goal.returns
returns c = some_noted c.args.noted _ (omega (arith, c.requires.0, c.requires.1)) c.over-found.ensures c.plus-counts.ensures
