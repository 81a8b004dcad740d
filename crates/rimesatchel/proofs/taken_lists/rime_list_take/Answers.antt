-- `rimesatchel::taken_lists::rime_list_take` meets its contract: it says what `listing::take` says, where there is room for all of it.
-- Assumes nothing.
use mathlib.Core.Bool.{not}
use mathlib.Core.Path.{ap}
use Rattle.rimesatchel.proofs.TakenListsLaws.{list_refused, list_taken}
use Rattle.rimesatchel.proofs.taken_lists.rime_list_take.Goals as goal

pub returns-then-not-has_room : goal.returns-then-not-has_room
returns-then-not-has_room c = let a = c.args in
    list_refused a.state.now a.held.now a.piece.now a.text.now c.has_room.ensures (ap not c.if-not-has_room.true)

pub returns : goal.returns
returns c = let a = c.args in
    let gives = c.numbers_of.ensures in
    list_taken a.state.now a.held.now a.piece.now a.text.now c.listing_of.ensures c.take-printed.ensures
    c.has_room.ensures (ap not c.if-not-has_room.false) gives.0 gives.1
