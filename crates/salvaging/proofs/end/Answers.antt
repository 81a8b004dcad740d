-- `salvaging::end` meets its contract.
-- Assumes nothing.
use Rattle.salvaging.proofs.Going.{ends_with}
use Rattle.salvaging.proofs.end.Goals as goal

pub returns : goal.returns
returns c = ends_with c.args.salvaging
    c.ended-tally.ensures c.last_line.ensures
