-- `presence::start` meets its contract.
-- Assumes nothing.
use Rattle.std.proofs.Common.{false}
use Rattle.presence.proofs.start.Goals as goal

pub returns : goal.returns
returns c = λ i. record {
  standing = c.start-standing.ensures i;
  sought = record { state = (c.opened.ensures i).state; refusal = 0; found = false; number = 0 };
}
