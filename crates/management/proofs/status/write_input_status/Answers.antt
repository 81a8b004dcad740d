-- `management::status::write_input_status` meets its contract.
-- Assumes nothing.
use mathlib.Core.Path.{◌≡◌, ◌∙◌, ap}
use Prim.Native.Nat.{◌+◌, ◌*◌, ◌-◌}
use native.Mathlib.Omega.{arith}
use Rattle.std.specs.Prelude.{Option}
use Rattle.management.specs.declared.ports.Fit.{Fit}
use Rattle.management.specs.Code.{found_fit}
use Rattle.management.specs.Status.{status_for}
use Rattle.management.proofs.Messages.{input_none, input_known}
use Rattle.management.proofs.Parts.{answered}
use Rattle.management.proofs.status.write_input_status.Goals as goal

pub returns-in-None : goal.returns-in-None
returns-in-None c = answered _ _ c.put_both.ensures c.status_head-head.ensures
    (input_none _ _ c.best_fit-fit.ensures.fits c.status_for-status.ensures c.requires.0 (ap (λ (f : Option Fit). (found_fit f).misfits) c.in-None.is))

pub returns-in-Some : goal.returns-in-Some
returns-in-Some c = let fit = c.in-Some.fit in
    let two : fit.port * 28 + 6 + 2 - (fit.port * 28 + 6) ≡ 2 = omega arith in
    answered _ _ (rw two at c.put_both-in-Some.ensures) c.status_head-head.ensures
    (input_known _ _ c.in-Some.ensures.fits
    (c.status_for-status.ensures ∙ ap (λ (f : Option Fit). status_for c.args.ports.now c.args.asked (found_fit f)) c.in-Some.is)
    c.requires.0 (λ e. omega (arith, e, c.in-Some.ensures.inside.few)))
