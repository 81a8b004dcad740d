-- Laws of the searches: which port fits best, and which is the first that serves.
-- Assumes nothing.
use mathlib.Core.Bool.{Bool, true, false}
use mathlib.Core.List.{List}
use mathlib.Core.Path.{◌≡◌, refl}
use Prim.Native.Nat.{ℕ, zero, suc, ◌+◌, ◌-◌, ◌≤◌, ◌<◌}
use native.Mathlib.Numerals.{add-one}
use native.Mathlib.Omega.{arith}
use borrow.Author.Tests.{lt-ltb, le-ltb}
use lib.Dec.{ltb}
use Rattle.runs.proofs.Laws.{split}
use Rattle.management.specs.declared.ports.Enquiry.{Enquiry}
use Rattle.management.specs.declared.ports.Fit.{Fit}
use Rattle.management.specs.Ports.{misfits, fewest, first_from}

abbrev pub fit : ℕ → ℕ → Fit
fit m k = record { misfits = m; port = k }

module _ (ports : List ℕ) (asked : Enquiry) where
  -- a port that fits better than those before it
  pub fit_better : (n : ℕ) {least best here : ℕ} → fit least best ≡ fewest ports asked n → here ≡ misfits ports asked n → here < least
      → fit here n ≡ fewest ports asked (n + 1)
  unfolding fewest
  fit_better n {least} {best} {here} so_far is less =
      let t : ltb (misfits ports asked n) (fewest ports asked n).misfits ≡ true =
      rw (← is, ← so_far) (lt-ltb here least less) in
      rw (add-one n, t, ← is)

  -- one that doesn't
  pub fit_kept : (n : ℕ) {least best here : ℕ} → fit least best ≡ fewest ports asked n → here ≡ misfits ports asked n → least ≤ here
      → fit least best ≡ fewest ports asked (n + 1)
  unfolding fewest
  fit_kept n {least} {best} {here} so_far is more =
      let t : ltb (misfits ports asked n) (fewest ports asked n).misfits ≡ false =
      rw (← is, ← so_far) (le-ltb here least more) in
      rw (add-one n, t) so_far

  -- the port that fits best is one of the ports
  pub fit_inside : (n : ℕ) → ((fewest ports asked n).misfits ≡ 4 → ⊥) → (fewest ports asked n).port < n
  unfolding fewest
  fit_inside zero some = absurd (some refl)
  fit_inside (suc n) some =
      split (ltb (misfits ports asked n) (fewest ports asked n).misfits)
      (λ t. rw t (omega arith))
      (λ t. rw t (omega (arith, fit_inside n (rw t at some))))

module _ (test : ℕ → Bool) where
  pub first_here : (k n : ℕ) → k < n → test k ≡ true → first_from test k (n - k) ≡ k
  unfolding first_from
  first_here k n less t = let more : n - k ≡ suc (n - (k + 1)) = omega arith in rw (more, t)

  pub first_on : (k n : ℕ) → k < n → test k ≡ false → first_from test (k + 1) (n - (k + 1)) ≡ first_from test k (n - k)
  unfolding first_from
  first_on k n less t = let more : n - k ≡ suc (n - (k + 1)) = omega arith in rw (more, t)

  pub first_none : (k n : ℕ) → n ≤ k → first_from test k (n - k) ≡ k
  unfolding first_from
  first_none k n past = let over : n - k ≡ 0 = omega arith in rw over
