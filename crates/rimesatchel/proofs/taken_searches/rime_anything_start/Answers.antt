-- `rimesatchel::taken_searches::rime_anything_start` meets its contract: it says what `presence::start` says.
-- Assumes nothing.
use mathlib.Core.Path.{refl, ◌∙◌, ap}
use Rattle.rimesatchel.specs.TakenSearches.{search_numbers}
use Rattle.rimesatchel.proofs.taken_searches.rime_anything_start.Goals as goal

pub returns : goal.returns
returns c = let starts = c.start.ensures in
    let numbers = c.numbers_of.ensures in
    record { refused = refl; leaves = numbers.0 ∙ ap search_numbers starts; holds = refl; begins = numbers.1 ∙ starts }
