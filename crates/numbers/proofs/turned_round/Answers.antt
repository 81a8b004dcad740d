-- `numbers::turned_round` meets its contract.
-- Assumes nothing.
use Rattle.std.proofs.Common.{refl}
use Rattle.numbers.specs.Numbers.{turned}
use Rattle.numbers.proofs.turned_round.Goals as goal

pub returns : goal.returns
unfolding turned
returns c = refl
