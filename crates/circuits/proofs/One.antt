-- No second answer: two answers, and two contents of the lent run at exit, that meet a public function's contract for the same inputs are
-- equal. Stated over the contracts themselves.
-- Assumes nothing.
use mathlib.Core.Path.{refl, sym, ◌∙◌}
use Rattle.runs.proofs.One.{One}
use Rattle.circuits.proofs.Answered.{check_injective, refused_injective}
use Rattle.circuits.proofs.check.Kinds as check-kinds
use Rattle.circuits.proofs.check.Reads as check-reads
use Rattle.circuits.proofs.plan.Kinds as plan-kinds
use Rattle.circuits.proofs.plan.Reads as plan-reads

pub check_one : One check-kinds.ps check-kinds.r check-reads.Pre check-reads.Post
check_one κs a x y v w pre p q = (check_injective x y (p ∙ sym q), refl)

pub plan_one : One plan-kinds.ps plan-kinds.r plan-reads.Pre plan-reads.Post
plan_one κs a x y v w pre p q = (refused_injective x y (p.refused ∙ sym q.refused), λ i. (tt, (tt, ((p.leaves ∙ sym q.leaves) i, tt))))
