-- `rimesatchel::taken_searches::rime_anything_take` meets its contract: it says what `presence::take` says, and `presence::reads_on`.
-- Assumes nothing.
use Rattle.rimesatchel.proofs.TakenSearchesLaws.{search_taken}
use Rattle.rimesatchel.proofs.taken_searches.rime_anything_take.Goals as goal

pub returns : goal.returns
returns c = let a = c.args in
    let gives = c.numbers_of.ensures in
    search_taken a.state.now a.held.now a.piece.now c.search_of.ensures c.take-search.ensures
    c.reads_on.ensures gives.0 gives.1
