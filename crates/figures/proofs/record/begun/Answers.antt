-- `figures::record::begun` meets its contract.
-- Assumes nothing.
use Rattle.std.specs.Prelude.{Ok}
use Rattle.cell_log.specs.Answered.{header_answered}
use Rattle.figures.proofs.Walks.{past_header}
use Rattle.figures.proofs.record.begun.Goals as goal

pub returns : goal.returns
returns c = past_header c.args.noted c.args.held {header = header_answered (Ok c.header_of-header.result)}
    c.header_of-header.ensures
    c.opened-opened.ensures
