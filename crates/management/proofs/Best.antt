-- What the two searches find: the port that fits best is the first of those with the fewest misfits, and the port that a request
-- identifies is the first that serves.
-- Assumes nothing.
use mathlib.Core.Bool.{Bool, true, false}
use mathlib.Core.List.{List}
use mathlib.Core.Logic.{⊎_elim}
use mathlib.Core.Path.{◌≡◌, refl, sym, ◌∙◌, ap}
use Prim.Native.Nat.{ℕ, zero, suc, ◌+◌, ◌≤◌, ◌<◌}
use native.Mathlib.Nat.{not-suc-le-zero, eq-or-lt_of_le, le_of_suc-le-suc}
use native.Mathlib.Omega.{arith}
use borrow.Author.Tests.{ltb-true, ltb-false}
use lib.Dec.{ltb}
use Rattle.runs.proofs.Laws.{split}
use Rattle.management.specs.declared.ports.Enquiry.{Enquiry}
use Rattle.management.specs.declared.ports.Fit.{Fit}
use Rattle.management.specs.Ports.{misfits, fewest, first_from}

module _ (ports : List ℕ) (asked : Enquiry) where
  abbrev m : ℕ → ℕ
  m = misfits ports asked

  abbrev best : ℕ → Fit
  best = fewest ports asked

  -- no port has fewer
  pub best_fewest : (n : ℕ) {k : ℕ} → k < n → (best n).misfits ≤ m k
  unfolding fewest
  best_fewest zero h = absurd (not-suc-le-zero h)
  best_fewest (suc n) {k} h =
      split (ltb (m n) (best n).misfits)
      (λ t.
      let less : m n < (best n).misfits = ltb-true _ _ t in
      rw t (⊎_elim (λ e. rw e (omega arith)) (λ before. omega (arith, best_fewest n before)) (eq-or-lt_of_le (le_of_suc-le-suc h))))
      (λ t.
      let more : (best n).misfits ≤ m n = ltb-false _ _ t in
      rw t (⊎_elim (λ e. rw e more) (λ before. best_fewest n before) (eq-or-lt_of_le (le_of_suc-le-suc h))))

  -- none before it has as few
  pub best_first : (n : ℕ) {k : ℕ} → k < (best n).port → (best n).misfits < m k
  unfolding fewest
  best_first zero {k} = λ h. absurd (not-suc-le-zero h)
  best_first (suc n) {k} =
      split (ltb (m n) (best n).misfits)
      (λ t. rw t (λ before. let less : m n < (best n).misfits = ltb-true _ _ t in omega (arith, best_fewest n {k = k} before)))
      (λ t. rw t (λ before. best_first n {k = k} before))

  -- they are the port's own
  pub best_is : (n : ℕ) → ((best n).misfits ≡ 4 → ⊥) → m (best n).port ≡ (best n).misfits
  unfolding fewest
  best_is zero = λ some. absurd (some refl)
  best_is (suc n) =
      split (ltb (m n) (best n).misfits) (λ t. rw t (λ some. refl)) (λ t. rw t (λ some. best_is n some))

module _ (test : ℕ → Bool) where
  -- none before it passes
  pub first_before : (left k : ℕ) {i : ℕ} → k ≤ i → i < first_from test k left → test i ≡ false
  unfolding first_from
  first_before zero k {i} past = λ before. absurd (let z : 1 ≤ 0 = omega arith in not-suc-le-zero z)
  first_before (suc left) k {i} past =
      split (test k)
      (λ t. rw t (λ before. absurd (let z : 1 ≤ 0 = omega arith in not-suc-le-zero z)))
      (λ t.
      rw t
      (λ before. ⊎_elim (λ e. ap test (sym e) ∙ t) (λ more. first_before left (k + 1) (omega arith) before) (eq-or-lt_of_le past)))

  -- it passes, unless it is past them all
  pub first_passes : (left k : ℕ) → first_from test k left < k + left → test (first_from test k left) ≡ true
  unfolding first_from
  first_passes zero k = λ inside. absurd (let z : 1 ≤ 0 = omega arith in not-suc-le-zero z)
  first_passes (suc left) k =
      split (test k)
      (λ t. rw t (λ inside. t))
      (λ t. rw t (λ inside. first_passes left (k + 1) (omega arith)))
