-- `status::step::step` meets its contract: a block of 192 bits is finished.
-- Assumes nothing.
use mathlib.Core.Path.{sym, ◌∙◌, ap}
use native.Mathlib.Omega.{arith}
use Rattle.status.specs.Step.{finished}
use Rattle.status.proofs.Steps.{step_added, added_last}
use Rattle.status.proofs.step.step.Goals as goal

pub returns : goal.returns
returns c = let s = c.args in
    c.finished_with.ensures s.block
    ∙ ap finished c.with_bit-octets.ensures
    ∙ sym (step_added s.block s.ancillary s.mark (sym c.refused.ensures ∙ c.if-refused.false) c.if-mark-eq2.false c.if-ancillary-eq1.false c.if-block-eq0.false
    ∙ added_last s.block.bits _ (omega (arith, c.if-block-lt191.false)))
