-- A step of the watch, by what it goes by.
-- Assumes nothing.
use mathlib.Core.Bool.{true, false, cond}
use mathlib.Core.Path.{◌≡◌, sym, ◌∙◌, ap}
use Prim.Native.Nat.{ℕ, suc, ◌+◌, ◌≤◌}
use native.Mathlib.Omega.{arith}
use lib.Dec.{eqb}
use borrow.Author.Tests.{eq-eqb, ne_eqb, le-ltb}
use Rattle.runs.proofs.Laws.{split}
use Rattle.numbers.specs.Numbers.{difference_of}
use Rattle.slips.specs.Slips.{starts_of, behind_of}
use Rattle.slips.proofs.Laws.{CanBe, can_be_lem, not_refused}
use Rattle.slips.specs.Watch.{
  Watch,
  watch_refused,
  report_refused,
  begun,
  in_step_of,
  out_of_step,
  told,
  refused,
  may_after,
  agrees_with,
  slipped,
  sure_step,
  new_step,
  step_refusal,
  taken_step,
  step_of,
}

module _ (w : Watch) (number second by : ℕ) where
  pub sure_in_step : difference_of second w.second ≡ may_after w.may by
      → sure_step w number second by ≡ told (in_step_of number second) (cond (eqb w.waits 1) 2 0) 0
  unfolding sure_step
  sure_in_step e = rw (eq-eqb (difference_of second w.second) (may_after w.may by) e)

  pub sure_slipped : (difference_of second w.second ≡ may_after w.may by → ⊥) → agrees_with w second by ≡ true
      → sure_step w number second by ≡ slipped number second (behind_of (difference_of w.other w.second) w.may)
  unfolding sure_step
  sure_slipped e agrees = rw (ne_eqb (difference_of second w.second) (may_after w.may by) e, agrees)

  pub sure_out : (difference_of second w.second ≡ may_after w.may by → ⊥) → agrees_with w second by ≡ false
      → sure_step w number second by
      ≡ told (out_of_step number w.second (may_after w.may by) second) 3
      (behind_of (difference_of second w.second) (may_after w.may by))
  unfolding sure_step
  sure_out e agrees = rw (ne_eqb (difference_of second w.second) (may_after w.may by) e, agrees)

  pub new_agrees : agrees_with w second by ≡ true → new_step w number second by ≡ told (in_step_of number second) 0 0
  unfolding new_step
  new_agrees agrees = rw agrees

  pub new_begins : agrees_with w second by ≡ false → new_step w number second by ≡ told (begun number second) 0 0
  unfolding new_step
  new_begins agrees = rw agrees

pub may_at_first : (by : ℕ) → by ≤ 2 → may_after 0 by ≡ by
unfolding may_after
may_at_first by few = rw (le-ltb 15 (0 + by) (omega arith)) (omega arith)

pub waits_not : (w : Watch) (second by : ℕ) → w.waits ≡ 0 → agrees_with w second by ≡ false
unfolding agrees_with
waits_not w second by none = rw (ne_eqb w.waits 1 (λ one. let e : ◌≡◌ {A = ℕ} 0 1 = sym none ∙ one in omega arith))

pub agrees_with_lem : (w : Watch) (second by : ℕ) → w.waits ≡ 1 → difference_of second w.other ≡ by → agrees_with w second by ≡ true
unfolding agrees_with
agrees_with_lem w second by one e = rw (eq-eqb w.waits 1 one, eq-eqb (difference_of second w.other) by e)

-- the two kinds of a sure watch
pub settled_in : (w : Watch) (number second by : ℕ) → w.waits ≡ 0 → w.may ≡ 0 → by ≤ 2 → difference_of second w.second ≡ by
    → sure_step w number second by ≡ told (in_step_of number second) 0 0
settled_in w number second by none no-may few e =
    sure_in_step w number second by (e ∙ sym (may_at_first by few) ∙ ap (λ (m : ℕ). may_after m by) (sym no-may))
    ∙ ap (λ (b : ℕ). told (in_step_of number second) (cond (eqb b 1) 2 0) 0) none

pub settled_out : (w : Watch) (number second by : ℕ) → w.waits ≡ 0 → w.may ≡ 0 → by ≤ 2 → (difference_of second w.second ≡ by → ⊥)
    → sure_step w number second by
    ≡ told (out_of_step number w.second by second) 3 (behind_of (difference_of second w.second) by)
settled_out w number second by none no-may few e =
    let m : may_after w.may by ≡ by = ap (λ (m : ℕ). may_after m by) no-may ∙ may_at_first by few in
    sure_out w number second by (λ same. e (same ∙ m)) (waits_not w second by none)
    ∙ ap (λ (m : ℕ). told (out_of_step number w.second m second) 3 (behind_of (difference_of second w.second) m)) m

-- the whole step
module _ (w : Watch) (missing number second : ℕ) where
  pub step_4 : watch_refused w ≡ true → step_of w missing number second ≡ refused 4 w
  unfolding step_of
  step_4 e = rw e

  pub step_31 : watch_refused w ≡ false → report_refused w missing number second ≡ true → step_of w missing number second ≡ refused 31 w
  unfolding step_of
  step_31 e f = rw (e, f)

  module _ (e : watch_refused w ≡ false) (f : report_refused w missing number second ≡ false) where
    pub step_taken : step_of w missing number second ≡ taken_step w missing number second
    unfolding step_of
    step_taken = rw (e, f)

    pub step_first : w.started ≡ 0 → step_of w missing number second ≡ told (begun number second) 0 0
    unfolding taken_step
    step_first z = step_taken ∙ rw (eq-eqb w.started 0 z)

    pub step_new : (w.started ≡ 0 → ⊥) → w.sure ≡ 0
        → step_of w missing number second ≡ new_step w number second (starts_of w.number (suc missing))
    unfolding taken_step
    step_new some z = step_taken ∙ rw (ne_eqb w.started 0 some, eq-eqb w.sure 0 z)

    pub step_sure : (w.started ≡ 0 → ⊥) → (w.sure ≡ 0 → ⊥)
        → step_of w missing number second ≡ sure_step w number second (starts_of w.number (suc missing))
    unfolding taken_step
    step_sure some sure = step_taken ∙ rw (ne_eqb w.started 0 some, ne_eqb w.sure 0 sure)

  -- what is refused, and what isn't
  pub step_refused : {n : ℕ} → n ≡ step_refusal w missing number second → (n ≡ 0 → ⊥) → refused n w ≡ step_of w missing number second
  unfolding step_refusal step_of
  step_refused is some =
      split (watch_refused w)
      (λ e. rw (is, e))
      (λ e.
      split (report_refused w missing number second)
      (λ f. rw (is, e, f))
      (λ f. absurd (some (is ∙ rw (e, f)))))

  module _ (none : step_refusal w missing number second ≡ 0) where
    pub can_be_then : CanBe w
    unfolding step_refusal
    can_be_then = split (watch_refused w) (λ e. absurd (let four : ◌≡◌ {A = ℕ} 4 0 = rw e at none in omega arith)) (λ e. can_be_lem w e)

    pub follows_then : report_refused w missing number second ≡ false
    unfolding step_refusal
    follows_then =
        split (report_refused w missing number second)
        (λ f. absurd (let some : ◌≡◌ {A = ℕ} 31 0 = rw (not_refused w can_be_then, f) at none in omega arith))
        (λ f. f)

    pub taken_then : taken_step w missing number second ≡ step_of w missing number second
    taken_then = sym (step_taken (not_refused w can_be_then) follows_then)
