-- `sender::fill::low_of` meets its contract.
-- Assumes nothing.
use Rattle.std.proofs.Common.{◌%◌, mod-lt, arith}
use Rattle.sender.proofs.Subframes.{low_rest}
use Rattle.sender.proofs.fill.low_of.Goals as goal

pub returns-in_default : goal.returns-in_default
returns-in_default c = low_rest _ (c.args.ancillary % 16) (mod-lt _ (omega arith)) c.in_default.in_default-own.rest
