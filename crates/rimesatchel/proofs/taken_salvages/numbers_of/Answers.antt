-- `rimesatchel::taken_salvages::numbers_of` meets its contract.
-- Assumes nothing.
use Rattle.std.proofs.Common.{◌∙◌, ap, arith}
use Rattle.rimesatchel.specs.TakenSalvages.{salvaging_from, salvage_numbers}
use Rattle.rimesatchel.proofs.TakenSalvagesLaws.{salvage_back}
use Rattle.rimesatchel.proofs.taken_salvages.numbers_of.Goals as goal

pub returns : goal.returns
unfolding salvage_numbers
returns c = let same = c.put_numbers.ensures.0 in
    (same, ap salvaging_from same ∙ salvage_back c.args.salvaging c.put_numbers.ensures.1 (omega arith))
