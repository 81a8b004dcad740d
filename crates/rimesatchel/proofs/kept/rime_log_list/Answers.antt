-- `rimesatchel::kept::rime_log_list` meets its contract: it says what `listing::take` says of the whole log, and `listing::end`.
-- Assumes nothing.
use mathlib.Core.Path.{◌∙◌}
use native.Mathlib.Omega.{arith}
use Rattle.rimesatchel.proofs.KeptLaws.{place_in, fits, listed_octets_lem}
use Rattle.rimesatchel.proofs.kept.rime_log_list.Goals as goal
use Rattle.rimesatchel.proofs.kept.rime_log_list.Goals.{then-lines, else-lines}

pub rest-end-requires : goal.rest-end-requires
rest-end-requires c = place_in c.start-begun.ensures c.take-printed.ensures

pub overflow_add-all : goal.overflow_add-all
overflow_add-all c = omega (
  arith,
  fits c.start-begun.ensures c.take-printed.ensures c.rest-end.ensures,
  c.well_formed.1.0,
)

pub returns : goal.returns
returns c = listed_octets_lem c.start-begun.ensures c.take-printed.ensures
    c.rest-end.ensures
    (elim c.if-lines.branch [
      | then-lines w ↦ w.whole-is ∙ rw w.if-lines.true
      | else-lines w ↦ w.whole-is ∙ rw w.if-lines.false
    ])
