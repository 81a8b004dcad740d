-- `rimesatchel::taken_lists::numbers_of` meets its contract.
-- Assumes nothing.
use Rattle.std.proofs.Common.{◌∙◌, ap}
use Rattle.rimesatchel.specs.TakenLists.{listing_from, list_numbers}
use Rattle.rimesatchel.proofs.TakenListsLaws.{list_back}
use Rattle.rimesatchel.proofs.taken_lists.numbers_of.Goals as goal

pub returns : goal.returns
unfolding list_numbers
returns c = let same = c.put_numbers.ensures.0 in
    (same, ap listing_from same ∙ list_back c.args.listing c.put_numbers.ensures.1)
