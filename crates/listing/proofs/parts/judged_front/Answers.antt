-- `listing::parts::judged_front` meets its contract.
-- Assumes nothing.
use Rattle.std.proofs.Common.{◌∙◌}
use Rattle.receiver.specs.Receiver.{judged_of}
use Rattle.reading.specs.Records.{front_of}
use Rattle.listing.proofs.parts.judged_front.Goals as goal

pub returns : goal.returns
unfolding front_of
returns c = c.judged.ensures
    ∙ (λ i. judged_of c.args.state (c.read_cell.ensures.0 i) (c.read_indication.ensures i))
