-- `stops::lines::put_begin` meets its contract.
-- Assumes nothing.
use Rattle.text.proofs.Laws.{puts_then, puts_same}
use Rattle.stops.proofs.Said.{begin_header, begin_record}
use Rattle.stops.proofs.lines.put_begin.Goals as goal

pub returns-then-stop-eq1 : goal.returns-then-stop-eq1
returns-then-stop-eq1 c = puts_same (begin_header _ c.if-stop-eq1.true) c.put_item.ensures

pub returns : goal.returns
returns c = puts_same (begin_record _ c.if-stop-eq1.false)
    (puts_then c.put_item-record.ensures c.put_item-2.ensures)
