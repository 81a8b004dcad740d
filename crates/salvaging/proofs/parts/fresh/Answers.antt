-- `salvaging::parts::fresh` meets its contract.
-- Assumes nothing.
use Rattle.std.proofs.Common.{ap}
use Rattle.receiver.specs.declared.Ready.{Ready}
use Rattle.salvaging.specs.declared.Tally.{Tally}
use Rattle.salvaging.proofs.parts.fresh.Goals as goal

abbrev tally_of_lem : Ready → Tally
tally_of_lem opened = record { state = opened.state; refusal = 0; taken = 3; kept = 0; left_out = 0 }

pub returns : goal.returns
returns c = ap tally_of_lem c.opened.ensures
