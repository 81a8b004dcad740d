-- `numbers::sequence_of` meets its contract.
-- Assumes nothing.
use Rattle.std.proofs.Common.{◌%◌, mod-lt, arith}
use Rattle.numbers.proofs.Laws.{eight_lt, eight_and_second}
use Rattle.numbers.proofs.sequence_of.Goals as goal

pub overflow_add-result : goal.overflow_add-result
overflow_add-result c = omega (arith, c.first_eight.ensures, eight_lt (c.args.number % 16) (mod-lt _ (omega arith)))

pub returns : goal.returns
returns c = eight_and_second (c.args.number % 16) c.args.second c.first_eight.ensures
