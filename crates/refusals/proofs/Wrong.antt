-- Wrong answers, two for each public function: its contract rules them out. Stated over the contracts themselves.
-- Assumes nothing.
use mathlib.Core.Path.{◌≡◌}
use native.Mathlib.Omega.{arith}
use contract.Lifetimes.{Lfts}
use Rattle.std.proofs.Common.{Ok, Err}
use Rattle.runs.proofs.Wrong.{Never}
use Rattle.refusals.specs.declared.Refusal.TheVariants as R
use Rattle.refusals.specs.Refusals.{number_of, refused_by}
use Rattle.refusals.proofs.number.Kinds as number-kinds
use Rattle.refusals.proofs.number.Reads as number-reads
use Rattle.refusals.proofs.U8FromRefusal.from.Kinds as from-kinds
use Rattle.refusals.proofs.U8FromRefusal.from.Reads as from-reads

module _ (κs : Lfts 0) where
  -- a refusal told as none, and none told as a refusal
  pub refusal_not_none : Never number-kinds.ps number-kinds.r number-reads.Post κs (Err R.Format, tt) (λ x v. x ≡ 0)
  unfolding refused_by number_of
  refusal_not_none x v wrong p = omega (arith, p)

  pub none_no_refusal : Never number-kinds.ps number-kinds.r number-reads.Post κs (Ok tt, tt) (λ x v. x ≡ 1)
  unfolding refused_by
  none_no_refusal x v wrong p = omega (arith, p)

  -- the numbers that the papers leave out passed over in the count: 24 and 25
  pub overhead_not_24 : Never from-kinds.ps from-kinds.r from-reads.Post κs (R.Overhead, tt) (λ x v. x ≡ 24)
  unfolding number_of
  overhead_not_24 x v wrong p = omega (arith, p)

  -- counted from 0
  pub format_not_0 : Never from-kinds.ps from-kinds.r from-reads.Post κs (R.Format, tt) (λ x v. x ≡ 0)
  unfolding number_of
  format_not_0 x v wrong p = omega (arith, p)
