-- `rimesatchel::boxes::sender_octets` meets its contract.
-- Assumes nothing.
use Rattle.rimesatchel.specs.Boxes.{sender_octets}
use Rattle.rimesatchel.proofs.boxes.sender_octets.Goals as goal

pub returns : goal.returns
unfolding sender_octets
returns c = rw (c.yes_no-wanted.ensures, c.yes_no-sent.ensures)
