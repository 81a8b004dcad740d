-- `figures::stretch::over` meets its contract: in one go where the format has no overhead, and else record by record.
-- Assumes nothing.
use lib.ListN.{drop}
use mathlib.Core.Path.{◌∙◌}
use Rattle.refusals.proofs.Laws.{number_not_0}
use Rattle.formats.proofs.Laws.{limits_of}
use Rattle.figures.proofs.Bare.{bare_over}
use Rattle.figures.proofs.Laws.{counts_begun}
use Rattle.figures.proofs.Unsettled.{none_over}
use Rattle.figures.proofs.stretch.over.Goals as goal

pub returns-in_default : goal.returns-in_default
returns-in_default c = rw (counts_begun c.default.ensures) (none_over c.args.state c.in_default.ensures (number_not_0 _) _)

pub bare-requires : goal.bare-requires
bare-requires c = let is-bare = c.is_bare.ensures c.if-is_bare.true in
    (is-bare, (limits_of _ _ _ c.in-Ok.ensures is-bare.taken).used_to, c.requires.1)

pub returns-then-is_bare : goal.returns-then-is_bare
returns-then-is_bare c = c.bare.ensures
    ∙ bare_over c.args.records c.args.state (drop c.args.place c.args.octets.now) c.in-Ok.ensures
    (c.is_bare.ensures c.if-is_bare.true) c.requires.0

pub each-requires : goal.each-requires
each-requires c = (c.in-Ok.ensures, c.requires.0, c.requires.1)

pub returns : goal.returns
returns c = c.each.ensures
