-- `rimesatchel::taken_salvages::rime_salvage_start` meets its contract: it says what `salvaging::start` says.
-- Assumes nothing.
use mathlib.Core.Path.{refl, ◌∙◌, ap}
use Rattle.rimesatchel.specs.TakenSalvages.{salvage_numbers}
use Rattle.rimesatchel.proofs.taken_salvages.rime_salvage_start.Goals as goal

pub returns : goal.returns
returns c = let starts = c.start.ensures in
    let numbers = c.numbers_of.ensures in
    record { refused = refl; leaves = numbers.0 ∙ ap salvage_numbers starts; holds = refl; begins = numbers.1 ∙ starts }
