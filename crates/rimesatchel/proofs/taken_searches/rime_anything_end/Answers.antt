-- `rimesatchel::taken_searches::rime_anything_end` meets its contract: it says what `presence::end` says.
-- Assumes nothing.
use Rattle.rimesatchel.proofs.TakenSearchesLaws.{search_refused, search_ended}
use Rattle.rimesatchel.proofs.taken_searches.rime_anything_end.Goals as goal

pub returns-then-found-ne0 : goal.returns-then-found-ne0
returns-then-found-ne0 c = let a = c.args in
    search_refused a.state.now a.held.now c.search_of.ensures c.end-found.ensures c.if-found-ne0.true

pub returns : goal.returns
returns c = let a = c.args in
    search_ended a.state.now a.held.now c.search_of.ensures c.end-found.ensures c.if-found-ne0.false
