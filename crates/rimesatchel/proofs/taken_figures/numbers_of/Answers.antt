-- `rimesatchel::taken_figures::numbers_of` meets its contract.
-- Assumes nothing.
use Rattle.std.proofs.Common.{◌∙◌, ap}
use Rattle.rimesatchel.specs.TakenFigures.{figures_from, figure_numbers}
use Rattle.rimesatchel.proofs.TakenFiguresLaws.{figures_back}
use Rattle.rimesatchel.proofs.taken_figures.numbers_of.Goals as goal

pub returns : goal.returns
unfolding figure_numbers
returns c = let same = c.put_numbers.ensures.0 in
    (same, ap figures_from same ∙ figures_back c.args.tally c.put_numbers.ensures.1)
