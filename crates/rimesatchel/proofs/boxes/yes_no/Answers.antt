-- `rimesatchel::boxes::yes_no` meets its contract.
-- Assumes nothing.
use Rattle.rimesatchel.specs.Boxes.{yes_no}
use Rattle.rimesatchel.proofs.boxes.yes_no.Goals as goal

pub returns-then-said : goal.returns-then-said
unfolding yes_no
returns-then-said c = rw c.if-said.true

pub returns-else-said : goal.returns-else-said
unfolding yes_no
returns-else-said c = rw c.if-said.false
