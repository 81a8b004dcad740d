-- `salvaging::start` meets its contract.
-- Assumes nothing.
use Rattle.salvaging.proofs.start.Goals as goal

pub returns : goal.returns
returns c = λ i. record {
  standing = c.start-standing.ensures i;
  octets = 0;
  tally = record { state = (c.opened.ensures i).state; refusal = 0; taken = 0; kept = 0; left_out = 0 };
}
