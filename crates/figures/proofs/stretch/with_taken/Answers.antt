-- `figures::stretch::with_taken` meets its contract.
-- Assumes nothing.
use native.Mathlib.Omega.{arith}
use Rattle.figures.proofs.Passed.{taken_more, gap_few}
use Rattle.figures.proofs.stretch.with_taken.Goals as goal

pub overflow_mul-result : goal.overflow_mul-result
overflow_mul-result c = omega (arith, gap_few c.args.missing c.args.used c.requires.2 c.requires.1)

pub overflow_add-result-5 : goal.overflow_add-result-5
overflow_add-result-5 c = omega (arith, gap_few c.args.missing c.args.used c.requires.2 c.requires.1, c.requires.0.marked2)

pub returns : goal.returns
returns c = taken_more _ _ _ _
