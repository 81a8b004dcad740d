-- `rimesatchel::taken_lists::rime_list_start` meets its contract: it says what `listing::start_longest` says.
-- Assumes nothing.
use mathlib.Core.Path.{refl, ◌∙◌, ap}
use Rattle.rimesatchel.specs.TakenLists.{list_numbers}
use Rattle.rimesatchel.proofs.taken_lists.rime_list_start.Goals as goal

pub returns : goal.returns
returns c = let starts = c.start_longest.ensures in
    let numbers = c.numbers_of.ensures in
    record { refused = refl; leaves = numbers.0 ∙ ap list_numbers starts; holds = refl; begins = numbers.1 ∙ starts }
