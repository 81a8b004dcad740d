-- `presence::put_line` meets its contract.
-- Assumes nothing.
use Rattle.presence.proofs.Lines.{line_refused, line_yes, line_no, writes}
use Rattle.presence.proofs.put_line.Goals as goal

pub returns-then-presence-ne0 : goal.returns-then-presence-ne0
returns-then-presence-ne0 c = writes _ (line_refused _ c.if-presence-ne0.true)
    c.put_line.ensures

pub returns-then-presence : goal.returns-then-presence
returns-then-presence c = writes _ (line_yes _ c.if-presence-ne0.false c.if-presence.true) c.put_line-then-presence.ensures

pub returns : goal.returns
returns c = writes _ (line_no _ c.if-presence-ne0.false c.if-presence.false) c.put_line-2.ensures
