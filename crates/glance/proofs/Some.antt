-- Laws of a test along numbers.
-- Assumes nothing.
use mathlib.Core.Bool.{Bool, true, false, true≢false, ◌||◌}
use mathlib.Core.Logic.{⊎_elim}
use mathlib.Core.Path.{◌≡◌, refl, sym, ◌∙◌, ap₂, subst}
use Prim.Native.Nat.{ℕ, zero, suc, ◌+◌, ◌≤◌, ◌<◌}
use native.Mathlib.Nat.{eq-or-lt_of_le, le_of_suc-le-suc, not-suc-le-zero}
use native.Mathlib.Omega.{arith}
use Rattle.runs.proofs.Laws.{split}
use Rattle.glance.specs.Glance.{some}

or_true : (a b : Bool) → b ≡ true → a || b ≡ true
or_true true b e = refl
or_true false b e = e

or_first : (a b : Bool) → b ≡ false → a || b ≡ true → a ≡ true
or_first true b f e = refl
or_first false b f e = absurd (true≢false (sym e ∙ f))

-- a test that passes at a number below n
module _ (test : ℕ → Bool) where
  pub some_here : (n i : ℕ) → i < n → test i ≡ true → some test n ≡ true
  unfolding some
  some_here zero i h e = absurd (not-suc-le-zero h)
  some_here (suc n) i h e =
      ⊎_elim
      (λ same. or_true (some test n) (test n) (subst (λ (k : ℕ). test k ≡ true) same e))
      (λ less. rw (some_here n i less e))
      (eq-or-lt_of_le (le_of_suc-le-suc h))

  pub some_more : (n : ℕ) → some test n ≡ false → test n ≡ false → some test (n + 1) ≡ false
  unfolding some
  some_more n before here = let one : n + 1 ≡ suc n = omega arith in rw (one, before, here)

  pub some_all : {i n : ℕ} → i ≤ n → n ≤ i → some test i ≡ false → false ≡ some test n
  some_all {i} {n} a b none = let all : i ≡ n = omega arith in sym (subst (λ (k : ℕ). some test k ≡ false) all none)

  -- where it passes
  pub record Passing (n : ℕ) : Type 0 where
    pub place : ℕ
    pub within : place < n
    pub passes : test place ≡ true

  pub some_where : (n : ℕ) → some test n ≡ true → Passing n
  unfolding some
  some_where zero e = absurd (true≢false (sym e))
  some_where (suc n) e =
      split (test n)
      (λ here. record { place = n; within = omega arith; passes = here })
      (λ none.
      let before : Passing n = some_where n (or_first (some test n) (test n) none e) in
      record { place = before.place; within = omega (arith, before.within); passes = before.passes })

  pub some_fails : (n : ℕ) → ((i : ℕ) → i < n → test i ≡ false) → some test n ≡ false
  some_fails n fails =
      split (some test n)
      (λ e. let at = some_where n e in absurd (true≢false (sym at.passes ∙ fails at.place at.within)))
      (λ e. e)

-- a test passes below n where another does below m
pub some_from : (f g : ℕ → Bool) (n m : ℕ) → ((i : ℕ) → i < n → f i ≡ true → some g m ≡ true) → some f n ≡ true → some g m ≡ true
some_from f g n m to e = let at = some_where f n e in to at.place at.within at.passes

-- two that pass alike
pub same_bool : (a b : Bool) → (a ≡ true → b ≡ true) → (b ≡ true → a ≡ true) → a ≡ b
same_bool true b f g = sym (f refl)
same_bool false true f g = g refl
same_bool false false f g = refl

-- a test that fails below m and from there on is another one
pub some_behind : (f g : ℕ → Bool) (m n : ℕ) → ((i : ℕ) → i < m → f i ≡ false) → ((i : ℕ) → i < n → f (m + i) ≡ g i)
    → some f (m + n) ≡ some g n
unfolding some
some_behind f g m zero before behind =
    let all : m + zero ≡ m = omega arith in
    rw all (some_fails f m before)
some_behind f g m (suc n) before behind =
    let next : m + suc n ≡ suc (m + n) = omega arith in
    rw next
    (ap₂ (λ (a b : Bool). a || b) (some_behind f g m n before (λ i h. behind i (omega (arith, h)))) (behind n (omega arith)))
