-- `figures::start` meets its contract.
-- Assumes nothing.
use Rattle.figures.proofs.Laws.{counts_begun}
use Rattle.figures.proofs.start.Goals as goal

pub returns : goal.returns
returns c = λ i. record {
  standing = c.start-standing.ensures i;
  noted = record { state = (c.opened-opened.ensures i).state; counts = counts_begun c.default-counts.ensures i };
}
