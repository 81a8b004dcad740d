-- `rimesatchel::taken_lists::rime_list_end` meets its contract: it says what `listing::end` says, where there is room for all of it.
-- Assumes nothing.
use Rattle.rimesatchel.proofs.TakenListsLaws.{end_refused, end_taken_lem}
use Rattle.rimesatchel.proofs.taken_lists.rime_list_end.Goals as goal

pub returns-then-text-lt216 : goal.returns-then-text-lt216
returns-then-text-lt216 c = let a = c.args in end_refused a.state.now a.held.now a.text.now c.if-text-lt216.true

pub returns : goal.returns
returns c = let a = c.args in
    end_taken_lem a.state.now a.held.now a.text.now c.listing_of.ensures c.end-listed.ensures c.if-text-lt216.false
