-- `rimesatchel::boxes::count_of` meets its contract.
-- Assumes nothing.
use Rattle.rimesatchel.specs.Boxes.{count_of}
use Rattle.rimesatchel.proofs.boxes.count_of.Goals as goal

pub returns : goal.returns
unfolding count_of
returns c = rw (c.wide-first.ensures.0, c.wide-second.ensures.0, c.wide-third.ensures.0, c.wide-fourth.ensures.0)
