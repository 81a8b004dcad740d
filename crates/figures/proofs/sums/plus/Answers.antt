-- `figures::sums::plus` meets its contract.
-- Assumes nothing.
use Rattle.figures.specs.Code.{capped}
use Rattle.figures.proofs.Laws.{same_counts}
use Rattle.figures.proofs.sums.plus.Goals as goal

pub returns : goal.returns
unfolding capped
returns c = same_counts c.sum.ensures c.sum-2.ensures c.sum-3.ensures c.sum-4.ensures c.sum-5.ensures c.sum-6.ensures
    c.sum-7.ensures c.sum-8.ensures c.sum-9.ensures
