-- `rimesatchel::taken_salvages::rime_salvage_end` meets its contract: it says what `salvaging::end` says, where there is room for all of it.
-- Assumes nothing.
use Rattle.rimesatchel.proofs.TakenSalvagesLaws.{last_refused_lem, last_taken}
use Rattle.rimesatchel.proofs.taken_salvages.rime_salvage_end.Goals as goal

pub returns-then-notes-lt216 : goal.returns-then-notes-lt216
returns-then-notes-lt216 c = let a = c.args in last_refused_lem a.state.now a.held.now a.notes.now c.if-notes-lt216.true

pub returns : goal.returns
returns c = let a = c.args in
    last_taken a.state.now a.held.now a.notes.now c.salvaging_of.ensures c.end-noted.ensures c.if-notes-lt216.false
