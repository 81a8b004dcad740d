-- `cell_log::behind` meets its contract.
-- Assumes nothing.
use borrow.Author.Tests.{eq-eqb, ne_eqb}
use Rattle.refusals.specs.Refusals.{number_of}
use Rattle.cell_log.specs.Code.{behind}
use Rattle.cell_log.proofs.behind.Goals as goal

pub returns-then-more-eq0 : goal.returns-then-more-eq0
unfolding behind number_of
returns-then-more-eq0 c = rw (eq-eqb _ _ c.if-more-eq0.true)

pub returns : goal.returns
unfolding behind
returns c = rw (ne_eqb _ _ c.if-more-eq0.false)
