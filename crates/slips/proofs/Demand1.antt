-- Demand 1 for the step: it refuses exactly where the issue says so, under that number; the watch is then as it was, and nothing is told.
-- Assumes nothing.
use mathlib.Core.Path.{◌≡◌, refl, ◌∙◌, ap}
use Prim.Native.Nat.{ℕ, suc}
use lib.Dec.{eqb}
use Rattle.runs.proofs.Laws.{split}
use Rattle.numbers.specs.Numbers.{difference_of}
use Rattle.slips.specs.Slips.{starts_of}
use Rattle.slips.specs.Watch.{
  Watch,
  Stepped,
  watch_refused,
  report_refused,
  may_after,
  agrees_with,
  slipped,
  sure_step,
  new_step,
  taken_step,
  step_refusal,
  step_of,
}
use Rattle.slips.proofs.Steps.{step_4, step_31, step_taken}

sure_takes : (w : Watch) (number second by : ℕ) → (sure_step w number second by).refusal ≡ 0
unfolding sure_step slipped
sure_takes w number second by =
    split (eqb (difference_of second w.second) (may_after w.may by))
    (λ e. rw e refl)
    (λ e. split (agrees_with w second by) (λ f. rw (e, f) refl) (λ f. rw (e, f) refl))

pub taken_takes : (w : Watch) (missing number second : ℕ) → (taken_step w missing number second).refusal ≡ 0
unfolding taken_step new_step
taken_takes w missing number second =
    split (eqb w.started 0)
    (λ e. rw e refl)
    (λ e.
    split (eqb w.sure 0)
    (λ f. rw (e, f) refl)
    (λ f. rw (e, f) (sure_takes w number second (starts_of w.number (suc missing)))))

-- nothing is told, and the watch stays
pub record StepsNothing (w : Watch) (r : Stepped) : Type 0 where
  pub watch_as_given : r.watch ≡ w
  pub nothing_told : r.what ≡ 0
  pub no_cells : r.cells ≡ 0

module _ (w : Watch) (missing number second : ℕ) (r : Stepped) (is : r ≡ step_of w missing number second) where
  nothing : (refusal : ℕ) → r ≡ record { refusal = refusal; watch = w; what = 0; cells = 0 } → StepsNothing w r
  nothing refusal e =
      record {
        watch_as_given = ap (λ (x : Stepped). x.watch) e;
        nothing_told = ap (λ (x : Stepped). x.what) e;
        no_cells = ap (λ (x : Stepped). x.cells) e;
      }

  pub demand_1_step : (r.refusal ≡ step_refusal w missing number second) × ((r.refusal ≡ 0 → ⊥) → StepsNothing w r)
  unfolding step_refusal
  demand_1_step =
      split (watch_refused w)
      (λ t.
      let e = is ∙ step_4 w missing number second t in
      (ap (λ (x : Stepped). x.refusal) e ∙ rw t refl, λ some. nothing 4 e))
      (λ f.
      split (report_refused w missing number second)
      (λ t.
      let e = is ∙ step_31 w missing number second f t in
      (ap (λ (x : Stepped). x.refusal) e ∙ rw (f, t) refl, λ some. nothing 31 e))
      (λ g.
      let e = ap (λ (x : Stepped). x.refusal) (is ∙ step_taken w missing number second f g) ∙ taken_takes w missing number second in
      (e ∙ rw (f, g) refl, λ some. absurd (some e))))
