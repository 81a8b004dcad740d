-- `linelist::finish` meets its contract: what ends the list is whole.
-- Assumes nothing.
use Rattle.std.proofs.Common.{arith}
use Rattle.listing.proofs.Fits.{ends_whole}
use Rattle.linelist.proofs.finish.Goals as goal

pub print-requires : goal.print-requires
print-requires c = (ends_whole c.end-listed.ensures (omega (arith, c.requires))).0
