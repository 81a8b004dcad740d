-- `text::put_one` meets its contract.
-- Assumes nothing.
use Rattle.text.proofs.Laws.{puts_in, puts_out}
use Rattle.text.proofs.put_one.Goals as goal

pub returns-then-place-run : goal.returns-then-place-run
returns-then-place-run c = puts_in _ _ c.args.octet c.if-place-run.true

pub returns : goal.returns
returns c = puts_out _ _ c.args.octet c.if-place-run.false
