-- Wrong answers, two for each public function: its contract rules them out. Stated over the contracts themselves.
-- Assumes nothing.
use Rattle.std.proofs.Common.{◌≡◌, arith}
use contract.Lifetimes.{Lfts}
use Rattle.runs.proofs.Wrong.{Never}
use Rattle.cells.specs.Code.{step_on}
use Rattle.cells.proofs.next_place.Kinds as next-place-kinds
use Rattle.cells.proofs.next_place.Reads as next-place-reads
use Rattle.cells.proofs.turned_two.Kinds as turned-two-kinds
use Rattle.cells.proofs.turned_two.Reads as turned-two-reads
use Rattle.cells.proofs.turned_four.Kinds as turned-four-kinds
use Rattle.cells.proofs.turned_four.Reads as turned-four-reads

module _ (κs : Lfts 0) where
  -- 56 hex, C = 5, order 1: after channel 4 at time 0, slot 8, comes channel 0 at time 1, which is slot 1 and not slot 10
  pub next_not_past_the_run : Never next-place-kinds.ps next-place-kinds.r next-place-reads.Post κs (2, (10, (8, tt))) (λ x v. x ≡ 10)
  unfolding step_on
  next_not_past_the_run x v wrong p = omega (arith, wrong, p)

  -- after slot 3 comes slot 5, and not slot 4 as in order 0
  pub next_not_beside : Never next-place-kinds.ps next-place-kinds.r next-place-reads.Post κs (2, (10, (3, tt))) (λ x v. x ≡ 4)
  unfolding step_on
  next_not_beside x v wrong p = omega (arith, wrong, p)

  -- left as they are, and a third octet kept
  pub two_not_left : Never turned-two-kinds.ps turned-two-kinds.r turned-two-reads.Post κs (0x0102, tt) (λ x v. x ≡ 0x0102)
  two_not_left x v wrong p = omega (arith, wrong, p.0)

  pub two_not_three : Never turned-two-kinds.ps turned-two-kinds.r turned-two-reads.Post κs (0x010203, tt) (λ x v. x ≡ 0x030201)
  two_not_three x v wrong p = omega (arith, wrong, p.0)

  -- left as they are, and turned by twos
  pub four_not_left : Never turned-four-kinds.ps turned-four-kinds.r turned-four-reads.Post κs (0x01020304, tt) (λ x v. x ≡ 0x01020304)
  four_not_left x v wrong p = omega (arith, wrong, p.0)

  pub four_not_by_twos : Never turned-four-kinds.ps turned-four-kinds.r turned-four-reads.Post κs (0x01020304, tt) (λ x v. x ≡ 0x02010403)
  four_not_by_twos x v wrong p = omega (arith, wrong, p.0)
