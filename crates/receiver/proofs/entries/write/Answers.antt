-- `receiver::entries::write` meets its contract.
-- Assumes nothing.
use Rattle.formats.specs.Settings.{settled_as}
use Rattle.receiver.specs.Unpacking.{used_in, blank_end}
use Rattle.receiver.proofs.Unpacking.{blank_either, blank_there, fills}
use borrow.Author.Rules.{rules}
use Rattle.receiver.proofs.entries.write.Goals as goal
use Rattle.receiver.proofs.entries.write.Goals.{After-cleared, Start}

pub own_entries-requires : goal.own_entries-requires
own_entries-requires c = (
  c.requires.0,
  c.requires.1,
  record { samples_room = search rules; ancillary_room = search rules; marks_room = search rules },
  blank_there c.args.set.format c.args.missing (used_in (settled_as c.args.set)) c.args.ancillary.now c.requires.2.ancillary_room
      c.cleared.ensures.ancillary_is,
)

pub returns : goal.returns
returns c = fills (settled_as c.args.set) c.args.cell.now c.args.missing (blank_end c.args.set.format c.args.missing (used_in (settled_as c.args.set)))
    c.args.samples.now c.args.ancillary.now c.args.marks.now
    (blank_either c.args.set.format c.args.missing (used_in (settled_as c.args.set))) c.requires.2 c.cleared.ensures
    c.own_entries.ensures
