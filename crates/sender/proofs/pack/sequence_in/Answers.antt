-- `sender::pack::sequence_in` meets its contract.
-- Assumes nothing.
use Rattle.std.proofs.Common.{eq-eqb, ne_eqb}
use Rattle.sender.proofs.pack.sequence_in.Goals as goal

pub returns-then-format-eq0 : goal.returns-then-format-eq0
returns-then-format-eq0 c = rw (eq-eqb _ _ c.if-format-eq0.true)

pub returns : goal.returns
returns c = rw (ne_eqb _ _ c.if-format-eq0.false) c.sequence_of.ensures
