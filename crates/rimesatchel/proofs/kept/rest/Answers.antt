-- `rimesatchel::kept::rest` meets its contract.
-- Assumes nothing.
use Rattle.rimesatchel.proofs.KeptLaws.{ends_from}
use Rattle.rimesatchel.proofs.kept.rest.Goals as goal

pub returns : goal.returns
returns c = let a = c.args in
    ends_from a.run.now a.at c.requires c.end.ensures
