-- `rimesatchel::boxes::receiver_octets` meets its contract.
-- Assumes nothing.
use Rattle.rimesatchel.specs.Boxes.{count_octets, receiver_octets}
use Rattle.rimesatchel.proofs.boxes.receiver_octets.Goals as goal

pub returns : goal.returns
unfolding receiver_octets count_octets
returns c = rw c.yes_no-started.ensures
