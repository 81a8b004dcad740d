-- `linelist::take_read` meets its contract.
-- Assumes nothing.
use Rattle.std.proofs.Common.{arith}
use Rattle.text.proofs.Short.{take_to}
use Rattle.listing.proofs.Fits.{takes_whole}
use Rattle.linelist.proofs.take_read.Goals as goal

pub returns : goal.returns
returns c =
    let takes = c.take.ensures in
    let fits = takes_whole takes
    (omega (arith, take_to c.args.turn.octets c.args.buffer.now, c.requires.0, c.requires.1, c.requires.2)) in
    (takes, fits.0, omega (arith, fits.1, c.take.auto.run))
