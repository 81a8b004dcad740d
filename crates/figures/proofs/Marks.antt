-- Laws of how many are marked so in a run.
-- Assumes nothing.
use mathlib.Core.Bool.{cond}
use mathlib.Core.Logic.{⊎_elim}
use mathlib.Core.Path.{◌≡◌, refl, sym, ◌∙◌, ap}
use Prim.Native.Nat.{ℕ, zero, suc, ◌+◌, ◌*◌, ◌≤◌, ◌<◌}
use native.Mathlib.Nat.{eq-or-lt_of_le, suc-mul}
use native.Mathlib.Omega.{arith}
use lib.Dec.{eqb}
use lib.ListN.{replicate}
use Rattle.runs.specs.Runs.{tab}
use Rattle.reading.specs.Totals.{total_of}
use Rattle.reading.proofs.Totals.{total_more}
use Rattle.figures.specs.Code.{marked}

one_more : (n k : ℕ) → suc n * k ≡ k + n * k
one_more n k = omega (arith, suc-mul n k)

-- each of n entries alike
pub marked_gap : (mark held n : ℕ) → marked mark (replicate n held) ≡ n * cond (eqb held mark) 1 0
unfolding total_of
marked_gap mark held zero = omega arith
marked_gap mark held (suc n) = ap (λ (m : ℕ). cond (eqb held mark) 1 0 + m) (marked_gap mark held n)
    ∙ sym (one_more n (cond (eqb held mark) 1 0))

-- a mark of 0 or 1
abbrev one : ℕ → ℕ → ℕ
one mark m = cond (eqb m mark) 1 0

low_both : (m : ℕ) → m ≤ 1 → one 0 m + one 1 m ≡ 1
low_both m h =
    ⊎_elim
    (λ (e : m ≡ 1). rw e refl)
    (λ (l : m < 1). let none : m ≡ 0 = omega (arith, l) in rw none refl)
    (eq-or-lt_of_le h)

low_two : (m : ℕ) → m ≤ 1 → one 2 m ≡ 0
low_two m h =
    ⊎_elim
    (λ (e : m ≡ 1). rw e refl)
    (λ (l : m < 1). let none : m ≡ 0 = omega (arith, l) in rw none refl)
    (eq-or-lt_of_le h)

module _ (f : ℕ → ℕ) (low : (i : ℕ) → f i ≤ 1) where
  pub own_both : (n : ℕ) → marked 0 (tab f n) + marked 1 (tab f n) ≡ n
  unfolding tab total_of
  own_both zero = refl
  own_both (suc n) =
      omega (arith, own_both n, low_both (f n) (low n), total_more (one 0) (tab f n) (f n), total_more (one 1) (tab f n) (f n))

  pub own_two : (n : ℕ) → marked 2 (tab f n) ≡ 0
  unfolding tab total_of
  own_two zero = refl
  own_two (suc n) = omega (arith, own_two n, low_two (f n) (low n), total_more (one 2) (tab f n) (f n))
