-- `figures::damage::key_of` meets its contract.
-- Assumes nothing.
use native.Mathlib.Omega.{arith}
use borrow.Author.Tests.{eq-eqb, ne_eqb}
use Rattle.figures.specs.Stretch.{top_nine, key_of}
use Rattle.figures.proofs.damage.key_of.Goals as goal

pub returns-then-format-eq0 : goal.returns-then-format-eq0
unfolding key_of
returns-then-format-eq0 c = (rw (eq-eqb _ 0 c.if-format-eq0.true), omega arith)

pub returns-then-format-eq8 : goal.returns-then-format-eq8
unfolding key_of top_nine
returns-then-format-eq8 c = (rw (ne_eqb _ 0 c.if-format-eq0.false, eq-eqb _ 8 c.if-format-eq8.true), omega arith)

pub returns : goal.returns
unfolding key_of top_nine
returns c = (rw (ne_eqb _ 0 c.if-format-eq0.false, ne_eqb _ 8 c.if-format-eq8.false), omega arith)
