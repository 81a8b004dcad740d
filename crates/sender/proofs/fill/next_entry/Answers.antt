-- `sender::fill::next_entry` meets its contract.
-- Assumes nothing.
use Rattle.formats.specs.Settings.{settled_as}
use Rattle.sender.proofs.Filling.{in_order, entry_on}
use Rattle.sender.proofs.fill.next_entry.Goals as goal

pub returns-then-set : goal.returns-then-set
returns-then-set c =
    entry_on (settled_as c.args.set) c.requires.0 c.requires.1 c.requires.2 c.requires.3 c.if-set.true c.next_place.ensures

pub returns : goal.returns
returns c = in_order (settled_as c.args.set) c.if-set.false
