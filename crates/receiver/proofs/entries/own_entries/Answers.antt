-- `receiver::entries::own_entries` meets its contract: subframes first, and then their parts.
-- Assumes nothing.
use Rattle.formats.specs.Settings.{settled_as}
use Rattle.receiver.proofs.Unpacking.{unpacks}
use Rattle.receiver.proofs.entries.own_entries.Goals as goal
use Rattle.receiver.proofs.entries.own_entries.Goals.{After-subframes, Start}

pub returns : goal.returns
returns c = unpacks (settled_as c.args.set) c.args.cell.now c.args.at c.args.samples.now c.args.ancillary.now c.args.marks.now
    c.requires.2 c.subframes.ensures c.parts.ensures
