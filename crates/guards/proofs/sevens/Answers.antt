-- `guards::sevens` meets its contract: the table is that of the definition.
-- Assumes nothing.
use mathlib.Core.Path.{refl}
use Rattle.runs.specs.Runs.{tab}
use Rattle.runs.specs.Division.{coefficients, divided, taken_down}
use Rattle.guards.specs.Guards.{nine_of, protected_bits, ten_guard, guard_of}
use Rattle.guards.specs.Code.{seven_guards}
use Rattle.guards.proofs.sevens.Goals as goal

pub returns : goal.returns
unfolding seven_guards tab guard_of nine_of protected_bits ten_guard coefficients divided taken_down
returns c = refl
