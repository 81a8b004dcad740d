-- `status::assembler::brought_forward` meets its contract: the block is as it was where the step is refused.
-- Assumes nothing.
use mathlib.Core.Path.{sym, ◌∙◌, ap}
use Rattle.refusals.proofs.Laws.{number_not_0}
use Rattle.std.proofs.lemmas.Result.{err_from_is_err_and}
use Rattle.status.specs.Step.{Handed}
use Rattle.status.proofs.Refused.{refused_step}
use Rattle.status.proofs.assembler.brought_forward.Goals as goal

pub returns-in_err-handed : goal.returns-in_err-handed
returns-in_err-handed c = let s = c.args in
    let told = c.in_err-handed.ensures.0 in
    let p = err_from_is_err_and c.from_residual.result c.from_residual.ensures.1 in
    rw (p.1, p.2) (λ i. record {
      block = sym (refused_step s.block s.ancillary s.mark (λ e. number_not_0 _ (ap (λ (h : Handed). h.refusal) told ∙ e))).0 i;
      handed = told i;
    })
