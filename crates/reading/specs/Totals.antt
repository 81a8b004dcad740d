-- Sums and counts over a list; those in it that pass a test; what holds of each.
-- Assumes nothing.
use Rattle.std.specs.Prelude.{Bool, cond, List, [], ◌∷◌, ℕ, ◌+◌}

-- the sum of a number of each
unfoldable pub total_of : {A : Type 0} → (A → ℕ) → List A → ℕ
total_of f [] = 0
total_of f (x ∷ xs) = f x + total_of f xs

-- how many pass a test
abbrev pub count_of : {A : Type 0} → (A → Bool) → List A → ℕ
count_of test xs = total_of (λ x. cond (test x) 1 0) xs

-- those that pass it, in their order
unfoldable pub those : {A : Type 0} → (A → Bool) → List A → List A
those test [] = []
those test (x ∷ xs) = cond (test x) (x ∷ those test xs) (those test xs)

-- something holds of each
unfoldable pub Each : {A : Type 0} → (A → Type 0) → List A → Type 0
Each Holds [] = Unit {0}
Each Holds (x ∷ xs) = Holds x × Each Holds xs
