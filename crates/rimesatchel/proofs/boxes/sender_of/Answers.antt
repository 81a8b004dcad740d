-- `rimesatchel::boxes::sender_of` meets its contract.
-- Assumes nothing.
use mathlib.Core.Path.{refl}
use Rattle.rimesatchel.specs.Boxes.{sender_of}
use Rattle.rimesatchel.proofs.boxes.sender_of.Goals as goal

pub returns : goal.returns
unfolding sender_of
returns c = refl
