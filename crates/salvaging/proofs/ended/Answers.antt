-- `salvaging::ended` meets its contract.
-- Assumes nothing.
use Rattle.salvaging.proofs.Texts.{ended_in_header, ended_behind}
use Rattle.salvaging.proofs.ended.Goals as goal

pub returns-then-standing-eq0 : goal.returns-then-standing-eq0
returns-then-standing-eq0 c = ended_in_header c.args.salvaging c.args.held c.end.ensures c.if-standing-eq0.true

pub returns : goal.returns
returns c = ended_behind c.args.salvaging c.args.held c.if-standing-eq0.false
