-- `management::ports::best_fit` meets its contract. The loop: of so many ports the one that fits best.
-- Assumes nothing.
use mathlib.Core.Path.{◌≡◌, refl, ◌∙◌, ap, ap₂, sym}
use Prim.Native.Nat.{◌<◌}
use native.Mathlib.Omega.{arith}
use Rattle.management.specs.declared.ports.Fit.{Fit}
use Rattle.management.specs.Ports.{fewest}
use Rattle.management.proofs.Fits.{fit, fit_better, fit_kept, fit_inside}
use Rattle.management.proofs.ports.best_fit.Goals as goal
use Rattle.management.proofs.ports.best_fit.Goals.{then-here-fewest, else-here-fewest}

pub loop-port-init : goal.loop-port-init
unfolding fewest
loop-port-init c = (refl, omega arith, λ e. refl)

pub loop-port-preserved : goal.loop-port-preserved
loop-port-preserved c = let l = c.loop-port in
    let a = c.args in
    let is = c.unwrap_or-here.ensures ∙ c.misfits.ensures.number in
    elim c.if-here-fewest.branch [
      | then-here-fewest w ↦ (
        ap₂ fit w.fewest-is w.best-is ∙ fit_better a.ports.now a.asked l.port l.invariant.0 is w.if-here-fewest.true,
        omega (arith, w.fewest-is, w.if-here-fewest.true, l.invariant.1),
        λ e. absurd (omega (arith, e, w.fewest-is, w.if-here-fewest.true, l.invariant.1)),
      )
      | else-here-fewest w ↦ (
        ap₂ fit w.fewest-is w.best-is ∙ fit_kept a.ports.now a.asked l.port l.invariant.0 is w.if-here-fewest.false,
        omega (arith, w.fewest-is, l.invariant.1),
        λ e. w.best-is ∙ l.invariant.2 (sym w.fewest-is ∙ e),
      )
    ]

pub returns-else-fewest-eq4-clause-inside : goal.returns-else-fewest-eq4-clause-inside
returns-else-fewest-eq4-clause-inside c = let l = c.loop-port in
    let a = c.args in
    let is = l.invariant.0 in
    let place : l.best ≡ (fewest a.ports.now a.asked l.port).port = ap (λ (f : Fit). f.port) is in
    let inside : (fewest a.ports.now a.asked l.port).port < l.port
    = fit_inside a.ports.now a.asked l.port (λ four. c.if-fewest-eq4.false (ap (λ (f : Fit). f.misfits) is ∙ four)) in
    record { few = omega (arith, l.invariant.1, c.if-fewest-eq4.false); there = omega (arith, place, inside, l.auto.port-end) }
