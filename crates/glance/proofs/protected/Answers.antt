-- `glance::protected` meets its contract.
-- Assumes nothing.
use Rattle.glance.proofs.Laws.{shifted_fits, protected_bare, protected_v}
use Rattle.glance.proofs.protected.Goals as goal

pub overflow_mul-nine : goal.overflow_mul-nine
overflow_mul-nine c = record { fits = shifted_fits _ _ c.requires.2 }

pub returns-then-format-eq0 : goal.returns-then-format-eq0
returns-then-format-eq0 c = protected_bare c.requires.0 c.requires.1 c.args.subframe c.if-format-eq0.true

pub returns-else-format-eq0 : goal.returns-else-format-eq0
returns-else-format-eq0 c = protected_v c.requires.0 c.requires.1 c.args.subframe c.if-format-eq0.false
