-- `guards::of_ten` meets its contract.
-- Assumes nothing.
use mathlib.Core.List.{List}
use mathlib.Core.Path.{◌≡◌, refl, ◌∙◌, ap}
use Prim.Native.Nat.{ℕ, ◌/◌, ◌%◌}
use native.Mathlib.Nat.{mod-lt}
use native.Mathlib.Omega.{arith}
use lib.Bits.{bit_xor}
use lib.ListN.{get_or}
use Rattle.runs.specs.Runs.{tab}
use Rattle.runs.specs.Division.{coefficients, divided, taken_down}
use Rattle.guards.specs.Guards.{nine_of, protected_bits, ten_guard, guard_of}
use Rattle.guards.specs.Code.{seven_guards}
use Rattle.guards.specs.declared.TheConstants.{SEVENS}
use Rattle.guards.proofs.Laws.{seven_guard}
use Rattle.guards.proofs.of_ten.Goals as goal

table_is : SEVENS ≡ seven_guards
unfolding seven_guards tab guard_of nine_of protected_bits ten_guard coefficients divided taken_down
table_is = refl

pub returns : goal.returns
returns c =
    c.from.ensures
    ∙ ap (λ (l : List ℕ). get_or l (bit_xor (c.args.number % 1024) (c.args.number % 1024 / 128) % 128) 0) table_is
    ∙ seven_guard (mod-lt c.args.number (omega arith))
