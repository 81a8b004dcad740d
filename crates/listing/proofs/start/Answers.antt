-- `listing::start` meets its contract.
-- Assumes nothing.
use Rattle.listing.proofs.start.Goals as goal

pub returns : goal.returns
returns c = λ i. record {
  standing = c.start-standing.ensures i;
  tally = record { state = (c.opened.ensures i).state; records = 0; sound = 0; missing = 0; refused = 0 };
}
