-- Wrong answers, two for each public function: its contract rules them out. Stated over the contracts themselves.
-- Assumes nothing.
use mathlib.Core.List.{List}
use mathlib.Core.Path.{◌≡◌, ◌∙◌, ap}
use Prim.Native.Nat.{ℕ}
use native.Mathlib.Omega.{arith}
use contract.Lifetimes.{Lfts}
use lib.ListN.{get_or}
use Rattle.runs.specs.Division.{coefficients, divided, taken_down}
use Rattle.guards.proofs.Laws.{seven_alone}
use Rattle.runs.proofs.Wrong.{Never}
use Rattle.guards.specs.Guards.{v_of, nine_of, protected_bits, ten_guard, guard_of}
use Rattle.guards.specs.Code.{seven_guards}
use Rattle.guards.proofs.of_ten.Kinds as of_ten-kinds
use Rattle.guards.proofs.of_ten.Reads as of_ten-reads
use Rattle.guards.proofs.sevens.Kinds as sevens-kinds
use Rattle.guards.proofs.sevens.Reads as sevens-reads

-- every definition on the way down to the numbers
unfoldable pub unfolded : Unit {0}
unfolding coefficients divided taken_down v_of nine_of protected_bits ten_guard seven_guards guard_of
unfolded = tt

module _ (κs : Lfts 0) where
  -- the remainder and not its complement; and V alone divided by x^3 + x^2 + 1
  pub of_ten_not_the_remainder : Never of_ten-kinds.ps of_ten-kinds.r of_ten-reads.Post κs (0, tt) (λ x v. x ≡ 0)
  unfolding unfolded
  of_ten_not_the_remainder x v wrong p = omega arith

  pub of_ten_not_by_another_polynomial : Never of_ten-kinds.ps of_ten-kinds.r of_ten-reads.Post κs (1, tt) (λ x v. x ≡ 2)
  unfolding unfolded
  of_ten_not_by_another_polynomial x v wrong p = omega arith

  -- remainders and not their complements: nothing is protected by 000
  pub sevens_not_the_remainders_themselves : Never sevens-kinds.ps sevens-kinds.r sevens-reads.Post κs tt (λ x v. get_or x 0 0 ≡ 0)
  unfolding unfolded
  sevens_not_the_remainders_themselves x v wrong p =
      let first : get_or x 0 0 ≡ 7 = ap (λ (l : List ℕ). get_or l 0 0) p ∙ seven_alone {sample = 0} (omega arith) in omega arith

  -- V alone divided by x^3 + x^2 + 1
  pub sevens_not_by_another_polynomial : Never sevens-kinds.ps sevens-kinds.r sevens-reads.Post κs tt (λ x v. get_or x 1 0 ≡ 2)
  unfolding unfolded
  sevens_not_by_another_polynomial x v wrong p =
      let second : get_or x 1 0 ≡ 4 = ap (λ (l : List ℕ). get_or l 1 0) p ∙ seven_alone {sample = 1} (omega arith) in omega arith
