-- `stops::put_line` meets its contract: its parts are put one after the other.
-- Assumes nothing.
use Rattle.text.proofs.Laws.{puts_none, puts_same, puts_then}
use Rattle.stops.proofs.Said.{line_none, line_some, writes}
use Rattle.stops.proofs.put_line.Goals as goal

pub returns-then-stop-eq0 : goal.returns-then-stop-eq0
returns-then-stop-eq0 c = writes _ (line_none _ c.if-stop-eq0.true) (puts_none _ _)

pub returns : goal.returns
returns c = writes _ (line_some _ c.if-stop-eq0.false)
    (puts_then (puts_then c.put_begin-begun.ensures (puts_same c.reason.ensures c.put_all-reasoned.ensures)) c.put_all.ensures)
