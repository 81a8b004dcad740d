-- `rimesatchel::taken_figures::rime_figures_take` meets its contract: it says what `figures::take` says.
-- Assumes nothing.
use Rattle.rimesatchel.proofs.TakenFiguresLaws.{figures_taken}
use Rattle.rimesatchel.proofs.taken_figures.rime_figures_take.Goals as goal

pub returns : goal.returns
returns c = let a = c.args in
    let gives = c.numbers_of.ensures in
    figures_taken a.state.now a.held.now a.piece.now c.tally_of.ensures c.take-tally.ensures gives.0 gives.1
