-- `figures::stretch::bare` meets its contract.
-- Assumes nothing.
use native.Mathlib.Omega.{arith}
use Rattle.formats.specs.Settings.{settled_as}
use Rattle.receiver.specs.Unpacking.{used_in}
use Rattle.figures.proofs.Passed.{all_few}
use Rattle.figures.proofs.stretch.bare.Goals as goal

pub overflow_mul-result : goal.overflow_mul-result
overflow_mul-result c = omega (arith, all_few c.args.records (used_in (settled_as c.args.set)) c.requires.2 c.requires.1)
