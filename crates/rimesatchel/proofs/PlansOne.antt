-- No second answer meets the contracts of the circuits' calls. Stated over the contracts themselves.
-- Assumes nothing.
use mathlib.Core.Path.{sym, ◌∙◌}
use Rattle.runs.proofs.One.{One}
use Rattle.rimesatchel.proofs.plans.rime_circuits_check.Kinds as check-kinds
use Rattle.rimesatchel.proofs.plans.rime_circuits_check.Reads as check-reads
use Rattle.rimesatchel.proofs.plans.rime_circuits_plan.Kinds as plan-kinds
use Rattle.rimesatchel.proofs.plans.rime_circuits_plan.Reads as plan-reads

pub rime_circuits_check_one : One check-kinds.ps check-kinds.r check-reads.Pre check-reads.Post
rime_circuits_check_one κs a x y v w pre p q =
    (p.refused ∙ sym q.refused, λ i. (tt, (tt, (tt, (tt, (tt, ((p.told ∙ sym q.told) i, tt)))))))

pub rime_circuits_plan_one : One plan-kinds.ps plan-kinds.r plan-reads.Pre plan-reads.Post
rime_circuits_plan_one κs a x y v w pre p q = (p.refused ∙ sym q.refused, λ i. (tt, (tt, ((p.leaves ∙ sym q.leaves) i, tt))))
