-- `receiver::usual::write` meets its contract.
-- Assumes nothing.
use mathlib.Core.Logic.{inl}
use mathlib.Core.Path.{refl}
use Rattle.receiver.specs.Unpacking.{straight}
use Rattle.receiver.proofs.Unpacking.{fills}
use Rattle.receiver.proofs.usual.write.Goals as goal
use Rattle.receiver.proofs.usual.write.Goals.{After-missing_entries, Start}

pub returns : goal.returns
returns c = fills straight c.args.cell.now c.args.missing c.args.missing c.args.samples.now c.args.ancillary.now c.args.marks.now
    (inl refl) c.requires.1 c.missing_entries.ensures c.own_entries.ensures
