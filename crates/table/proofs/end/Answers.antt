-- `table::end` meets its contract: a total that is too large.
-- Assumes nothing.
use Rattle.std.proofs.Common.{sym, ◌∙◌}
use Rattle.table.proofs.Taken.{ends_19}
use Rattle.table.proofs.end.Goals as goal

pub returns-in-Err : goal.returns-in-Err
returns-in-Err c = ends_19 c.args.sheet c.in-Err.refusal (sym c.last-refusal.ensures ∙ c.if-refusal-ne0.false) c.in-Err.ensures
    c.into.ensures c.refused-in-Err.ensures
