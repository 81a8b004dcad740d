-- `slips::step` meets its contract.
-- Assumes nothing.
use mathlib.Core.List.{List}
use mathlib.Core.Path.{◌≡◌, sym, ◌∙◌, ap, subst}
use Prim.Native.Nat.{ℕ}
use Rattle.std.proofs.lemmas.Result.{err_from_is_err_and}
use Rattle.refusals.specs.Refusals.{number_of, refused_by}
use Rattle.refusals.proofs.Laws.{number_not_0}
use Rattle.slips.specs.Watch.{Watch, told, refused, step_of}
use Rattle.slips.specs.Known.{what_of, cells_of, watch_in, octets_in}
use Rattle.slips.proofs.Steps.{step_4, step_refused}
use Rattle.slips.proofs.Demand1.{demand_1_step}
use Rattle.slips.proofs.step.Goals as goal

-- what is refused of a watch is refused of its octets
of_octets : (missing number second : ℕ) {n : ℕ} {v w left : Watch} → v ≡ w → (n ≡ 0 → ⊥) → refused n left ≡ step_of v missing number second
    → refused n w ≡ step_of w missing number second
of_octets missing number second {n} {v} {w} {left} is some said =
    subst (λ (w : Watch). refused n w ≡ step_of w missing number second) is
    (step_refused v missing number second (demand_1_step v missing number second (refused n left) said).0 some)

pub returns-in_err-seen : goal.returns-in_err-seen
unfolding refused_by number_of
returns-in_err-seen c =
    let p = err_from_is_err_and c.from_residual.result c.from_residual.ensures.1 in
    let read = c.in_err-seen.ensures in
    rw (p.1, p.2, read.0) (record { step = sym (step_4 _ _ _ _ read.1); octets = tt })

pub returns-in_err-slip : goal.returns-in_err-slip
unfolding refused_by
returns-in_err-slip c =
    let p = err_from_is_err_and c.from_residual-in_err-slip.result c.from_residual-in_err-slip.ensures.1 in
    let a = c.args in
    rw (p.1, p.2)
    (record {
      step = of_octets a.missing a.number a.second c.in_ok-seen.ensures.0 (number_not_0 _) c.in_err-slip.ensures;
      octets = tt;
    })

pub returns : goal.returns
returns c =
    let a = c.args in
    let is = c.octets.ensures in
    record {
      step =
          ap (λ (o : List ℕ). told (watch_in o) (what_of c.in_ok-slip.slip) (cells_of c.in_ok-slip.slip)) is
          ∙ c.in_ok-slip.ensures
          ∙ ap (λ (w : Watch). step_of w a.missing a.number a.second) c.in_ok-seen.ensures.0;
      octets = is ∙ ap (λ (o : List ℕ). octets_in (watch_in o)) (sym is);
    }
