-- `rimesatchel::taken_salvages::rime_salvage_take` meets its contract: it says what `salvaging::take` says, where there is room for all of it.
-- Assumes nothing.
use mathlib.Core.Bool.{not}
use mathlib.Core.Path.{ap}
use Rattle.rimesatchel.proofs.TakenSalvagesLaws.{salvage_refused, salvage_taken}
use Rattle.rimesatchel.proofs.taken_salvages.rime_salvage_take.Goals as goal

pub returns-then-not-has_both : goal.returns-then-not-has_both
returns-then-not-has_both c = let a = c.args in
    salvage_refused a.state.now a.held.now a.piece.now a.out.now a.notes.now c.has_both.ensures
    (ap not c.if-not-has_both.true)

pub returns : goal.returns
returns c = let a = c.args in
    let gives = c.numbers_of.ensures in
    salvage_taken a.state.now a.held.now a.piece.now a.out.now a.notes.now c.salvaging_of.ensures
    c.take-wrote.ensures c.has_both.ensures (ap not c.if-not-has_both.false) gives.0 gives.1
