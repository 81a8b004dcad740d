-- `rimesatchel::boxes::receiver_of` meets its contract.
-- Assumes nothing.
use Rattle.rimesatchel.specs.Boxes.{receiver_of}
use Rattle.rimesatchel.proofs.boxes.receiver_of.Goals as goal

pub returns : goal.returns
unfolding receiver_of
returns c = rw c.count_of-count.ensures
