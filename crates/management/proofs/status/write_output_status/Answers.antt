-- `management::status::write_output_status` meets its contract.
-- Assumes nothing.
use mathlib.Core.Path.{◌≡◌, sym, ◌∙◌, ap}
use Prim.Native.Nat.{◌+◌, ◌*◌, ◌-◌}
use native.Mathlib.Omega.{arith}
use Rattle.std.specs.Prelude.{Option}
use Rattle.management.specs.declared.ports.Fit.{Fit}
use Rattle.management.specs.Code.{found_fit}
use Rattle.management.specs.Status.{status_for}
use Rattle.management.proofs.Messages.{output_other, output_known, known_inside}
use Rattle.management.proofs.Parts.{answered}
use Rattle.management.proofs.status.write_output_status.Goals as goal
use Rattle.management.proofs.status.write_output_status.Goals.{in_default-via-in-Some+else-status, in_default-via-in_default}

pub returns-in-Some : goal.returns-in-Some
returns-in-Some c = let fit = c.in-Some.fit in
    let count : fit.port * 28 + 6 + 22 - (fit.port * 28 + 6) ≡ 22 = omega arith in
    answered _ _ (rw count at c.put_both.ensures) c.status_head-head.ensures
    (output_known _ _ c.in-Some.ensures.fits
    (c.status_for-status.ensures ∙ ap (λ (f : Option Fit). status_for c.args.ports.now c.args.asked (found_fit f)) c.in-Some.is)
    c.requires.0 c.if-status.true)

pub returns-in_default : goal.returns-in_default
returns-in_default c = answered _ _ c.put_both-in_default.ensures c.status_head-head.ensures
    (output_other _ _ c.best_fit-fit.ensures.fits c.status_for-status.ensures c.requires.0
    (elim c.in_default.branch [
      | in_default-via-in-Some+else-status w ↦ w.if-status.false
      | in_default-via-in_default w ↦
          λ e. known_inside _ _ (found_fit c.best_fit-fit.result) (sym c.status_for-status.ensures ∙ e)
          (ap (λ (f : Option Fit). (found_fit f).misfits) w.in_default.is)
    ]))
