-- `salvage::take_read` meets its contract.
-- Assumes nothing.
use Rattle.std.proofs.Common.{arith}
use Rattle.text.proofs.Short.{take_to}
use Rattle.salvaging.proofs.Fits.{takes_whole}
use Rattle.salvage.proofs.take_read.Goals as goal

pub returns : goal.returns
returns c =
    let takes = c.take.ensures in
    let few = take_to c.args.turn.octets c.args.buffer.now in
    let fits = takes_whole takes (omega (arith, few, c.requires.0, c.requires.1, c.requires.2))
    (omega (arith, few, c.requires.0, c.requires.1, c.requires.3)) in (
      takes,
      record { all = fits.0.0; within = omega (arith, fits.0.1, c.take.auto.out) },
      record { all = fits.1.0; within = omega (arith, fits.1.1, c.take.auto.notes) },
    )
