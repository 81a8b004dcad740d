-- `salvage::finish` meets its contract: what is said last is whole.
-- Assumes nothing.
use Rattle.std.proofs.Common.{arith}
use Rattle.salvaging.proofs.Fits.{ends_whole}
use Rattle.salvage.proofs.finish.Goals as goal

pub print-requires : goal.print-requires
print-requires c = (ends_whole c.end-noted.ensures (omega (arith, c.requires))).0
