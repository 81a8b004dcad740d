-- `figures::rows::per_million` meets its contract.
-- Assumes nothing.
use mathlib.Core.Path.{refl}
use borrow.Author.Tests.{eq-eqb, ne_eqb}
use Rattle.figures.specs.Figures.{per_million}
use Rattle.figures.proofs.rows.per_million.Goals as goal

pub returns-then-sum-eq0 : goal.returns-then-sum-eq0
unfolding per_million
returns-then-sum-eq0 c = rw (eq-eqb _ _ c.if-sum-eq0.true) refl

pub returns : goal.returns
unfolding per_million
returns c = rw (ne_eqb _ _ c.if-sum-eq0.false) refl
