-- Laws of counts over lists.
-- Assumes nothing.
use mathlib.Core.Bool.{Bool, not}
use mathlib.Core.List.{List, [], ◌∷◌, ◌++◌}
use mathlib.Core.Path.{◌≡◌, refl, ap}
use Prim.Native.Nat.{ℕ, ◌+◌, ◌*◌, ◌≤◌}
use native.Mathlib.Nat.{mul-suc}
use native.Mathlib.Omega.{arith}
use lib.ListN.{length}
use Rattle.runs.proofs.Laws.{split}
use Rattle.reading.specs.Totals.{total_of, count_of, those, Each}

module _ {A : Type 0} where
  -- counts over two lists joined add up
  pub total_joined : (f : A → ℕ) (xs ys : List A) → total_of f (xs ++ ys) ≡ total_of f xs + total_of f ys
  unfolding total_of
  total_joined f [] ys = omega arith
  total_joined f (x ∷ xs) ys = omega (arith, total_joined f xs ys)

  -- one more
  pub total_more : (f : A → ℕ) (xs : List A) (x : A) → total_of f (xs ++ (x ∷ [])) ≡ total_of f xs + f x
  unfolding total_of
  total_more f [] x = omega arith
  total_more f (y ∷ ys) x = omega (arith, total_more f ys x)

  -- each passes a test or not
  pub count_both : (test : A → Bool) (xs : List A) → count_of test xs + count_of (λ x. not (test x)) xs ≡ length xs
  unfolding total_of
  count_both test [] = refl
  count_both test (x ∷ xs) =
      split (test x)
      (λ e. rw e (omega (arith, count_both test xs)))
      (λ e. rw e (omega (arith, count_both test xs)))

  pub those_twice : (test : A → Bool) (xs : List A) → those test (those test xs) ≡ those test xs
  unfolding those
  those_twice test [] = refl
  those_twice test (x ∷ xs) =
      split (test x)
      (λ e. rw e (rw e (ap (λ (ys : List A). x ∷ ys) (those_twice test xs))))
      (λ e. rw e (those_twice test xs))

  pub length_those : (test : A → Bool) (xs : List A) → length (those test xs) ≡ count_of test xs
  unfolding those total_of
  length_those test [] = refl
  length_those test (x ∷ xs) =
      split (test x)
      (λ e. rw e (omega (arith, length_those test xs)))
      (λ e. rw e (omega (arith, length_those test xs)))

  -- a sum of numbers up to a bound
  pub total_to : (f : A → ℕ) (most : ℕ) (xs : List A) → Each (λ x. f x ≤ most) xs → total_of f xs ≤ most * length xs
  unfolding total_of Each
  total_to f most [] h = omega arith
  total_to f most (x ∷ xs) h = omega (arith, h.0, total_to f most xs h.1, mul-suc most (length xs))
