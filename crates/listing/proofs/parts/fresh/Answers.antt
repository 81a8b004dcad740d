-- `listing::parts::fresh` meets its contract.
-- Assumes nothing.
use Rattle.std.proofs.Common.{ap}
use Rattle.receiver.specs.declared.Ready.{Ready}
use Rattle.listing.specs.declared.Tally.{Tally}
use Rattle.listing.proofs.parts.fresh.Goals as goal

abbrev tally_of_lem : Ready → Tally
tally_of_lem opened = record { state = opened.state; records = 0; sound = 0; missing = 0; refused = 0 }

pub returns : goal.returns
returns c = ap tally_of_lem c.opened.ensures
