-- `numbers::remainder_of` meets its contract: taken off term by term, the divisor leaves the paper's remainder.
-- Assumes nothing.
use Rattle.std.proofs.Common.{◌%◌, mod-lt, arith}
use Rattle.numbers.proofs.Laws.{left_right}
use Rattle.numbers.proofs.remainder_of.Goals as goal

pub returns : goal.returns
returns c = left_right (c.args.number % 16) (mod-lt _ (omega arith))
