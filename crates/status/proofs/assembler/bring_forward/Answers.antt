-- `status::assembler::bring_forward` meets its contract: a refused step leaves the block.
-- Assumes nothing.
use mathlib.Core.Path.{ap}
use Rattle.std.proofs.lemmas.Result.{err_from_is_err_and}
use Rattle.status.specs.Step.{Stepped}
use Rattle.status.proofs.assembler.bring_forward.Goals as goal

pub returns-in_err-stepped : goal.returns-in_err-stepped
returns-in_err-stepped c = let p = err_from_is_err_and c.from_residual.result c.from_residual.ensures.1 in
    rw (p.1, p.2) (ap (λ (s : Stepped). s.handed) c.in_err-stepped.ensures, ap (λ (s : Stepped). s.block) c.in_err-stepped.ensures)
