-- `figures::damage::low_of` meets its contract.
-- Assumes nothing.
use native.Mathlib.Omega.{arith}
use borrow.Author.Tests.{eq-eqb, ne_eqb}
use Rattle.figures.specs.Stretch.{low_of}
use Rattle.figures.proofs.damage.low_of.Goals as goal

pub returns-then-format-eq0 : goal.returns-then-format-eq0
unfolding low_of
returns-then-format-eq0 c = (rw (eq-eqb _ 0 c.if-format-eq0.true), omega arith)

pub returns : goal.returns
unfolding low_of
returns c = (rw (ne_eqb _ 0 c.if-format-eq0.false), omega arith)
