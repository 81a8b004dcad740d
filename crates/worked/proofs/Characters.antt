-- A changed bit changes the check character: each step of the division can be undone, so that two rests that differ once differ to the end.
-- Assumes nothing.
use mathlib.Core.Bool.{Bool, true, false, cond}
use mathlib.Core.List.{List}
use mathlib.Core.Path.{◌≡◌, refl, sym, ◌∙◌, ap, ap₂, subst, subst₂}
use Prim.Native.Nat.{ℕ, zero, suc, ◌+◌, ◌*◌, ◌/◌, ◌%◌, ◌<◌}
use native.Mathlib.Nat.{mod-lt, not-suc-le-zero}
use native.Mathlib.Omega.{arith}
use borrow.Author.Tests.{lt-ltb, eqb-true, eqb-false, ltb-true}
use lib.Bits.{bit_xor}
use lib.Dec.{eqb, ltb, eqb→eq, ltb→lt}
use Rattle.runs.specs.Division.{taken_down, divided}
use Rattle.runs.specs.Runs.{tab}
use Rattle.runs.specs.Test.{every}
use Rattle.runs.proofs.Laws.{every_at, split}
use Rattle.status.specs.Bits.{bit_of}
use Rattle.status.specs.Check.{generator, coefficient_of, turned_of, check_character}
use Rattle.status.proofs.Laws.{divided_tab}

-- the rest before a step, from the rest after it and the coefficient taken down
undone : ℕ → ℕ → ℕ
undone rest coefficient = cond (eqb (rest % 2) coefficient) (rest / 2) (bit_xor rest generator / 2)

-- of a rest and a coefficient, as one number below 512: the step stays below x^8, and can be undone; of a rest, the lowest coefficient
-- after a step tells whether 0 or 1 was taken down
stays_low : ℕ → Bool
stays_low n = ltb (taken_down 8 generator (n / 2) (n % 2)) 256

is_undone : ℕ → Bool
is_undone n = eqb (undone (taken_down 8 generator (n / 2) (n % 2)) (n % 2)) (n / 2)

tells_apart : ℕ → Bool
tells_apart rest = eqb ((taken_down 8 generator rest 0 + taken_down 8 generator rest 1) % 2) 1

module _ (rest coefficient : ℕ) (rest< : rest < 256) (coefficient< : coefficient < 2) where
  high_is : (rest * 2 + coefficient) / 2 ≡ rest
  high_is = omega arith

  low_is : (rest * 2 + coefficient) % 2 ≡ coefficient
  low_is = omega arith

  step_low : taken_down 8 generator rest coefficient < 256
  unfolding stays_low taken_down every
  step_low =
      subst₂ (λ (r b : ℕ). taken_down 8 generator r b < 256) high_is low_is
      (ltb→lt _ 256 (every_at stays_low 512 tt (rest * 2 + coefficient) (omega arith)))

  step_undone : undone (taken_down 8 generator rest coefficient) coefficient ≡ rest
  unfolding is_undone undone taken_down every
  step_undone =
      subst₂ (λ (r b : ℕ). undone (taken_down 8 generator r b) b ≡ r) high_is low_is
      (eqb→eq _ _ (every_at is_undone 512 tt (rest * 2 + coefficient) (omega arith)))

step_parity : (rest : ℕ) → rest < 256 → (taken_down 8 generator rest 0 + taken_down 8 generator rest 1) % 2 ≡ 1
unfolding tells_apart taken_down every
step_parity rest h = eqb→eq _ _ (every_at tells_apart 256 tt rest h)

-- from one rest two coefficients lead to two rests
apart : (rest a b : ℕ) → rest < 256 → a < 2 → b < 2 → (a ≡ b → ⊥) → taken_down 8 generator rest a ≡ taken_down 8 generator rest b → ⊥
apart rest a b rest< a< b< differ equal =
    let odd : (taken_down 8 generator rest 0 + taken_down 8 generator rest 1) % 2 ≡ 1 = step_parity rest rest< in
    split (eqb a 0)
    (λ e.
    let zero_a : a ≡ 0 = eqb-true a 0 e in
    let one_b : b ≡ 1 = omega (arith, b<, zero_a, differ) in
    let same : taken_down 8 generator rest 0 ≡ taken_down 8 generator rest 1
    = ap (taken_down 8 generator rest) (sym zero_a) ∙ equal ∙ ap (taken_down 8 generator rest) one_b in
    omega (arith, odd, same))
    (λ e.
    let one-a : a ≡ 1 = omega (arith, a<, eqb-false a 0 e) in
    let zero-b : b ≡ 0 = omega (arith, b<, one-a, differ) in
    let same : taken_down 8 generator rest 1 ≡ taken_down 8 generator rest 0
    = ap (taken_down 8 generator rest) (sym one-a) ∙ equal ∙ ap (taken_down 8 generator rest) zero-b in
    omega (arith, odd, same))

-- the character's octet turned round again is the rest
turned_test : ℕ → Bool
turned_test p = eqb (turned_of (turned_of p)) p

turned_twice : (p : ℕ) → p < 256 → turned_of (turned_of p) ≡ p
unfolding turned_test every
turned_twice p h = eqb→eq _ _ (every_at turned_test 256 tt p h)

-- the rest after n coefficients
abbrev rest_of : (ℕ → ℕ) → ℕ → ℕ
rest_of f n = divided 8 generator 0 (tab f n)

rest_low : (f : ℕ → ℕ) → ((k : ℕ) → f k < 2) → (n : ℕ) → rest_of f n < 256
unfolding tab divided
rest_low f f< zero = omega arith
rest_low f f< (suc n) = rw (divided_tab 8 generator f n) (step_low (rest_of f n) (f n) (rest_low f f< n) (f< n))

-- the rests of two rows of coefficients
module _ (f g : ℕ → ℕ) (f< : (k : ℕ) → f k < 2) (g< : (k : ℕ) → g k < 2) where
  rest_same : (n : ℕ) → ((k : ℕ) → k < n → f k ≡ g k) → rest_of f n ≡ rest_of g n
  unfolding tab divided
  rest_same zero same = refl
  rest_same (suc n) same =
      divided_tab 8 generator f n
      ∙ ap₂ (taken_down 8 generator) (rest_same n (λ k h. same k (omega (arith, h)))) (same n (omega arith))
      ∙ sym (divided_tab 8 generator g n)

  -- a step on from two rests that differ, with the same coefficient
  goes_on : (n : ℕ) → f n ≡ g n → (rest_of f n ≡ rest_of g n → ⊥) → rest_of f (suc n) ≡ rest_of g (suc n) → ⊥
  goes_on n same differ equal =
      differ
      (sym (step_undone (rest_of f n) (f n) (rest_low f f< n) (f< n))
      ∙ ap₂ undone (sym (divided_tab 8 generator f n) ∙ equal ∙ divided_tab 8 generator g n) same
      ∙ step_undone (rest_of g n) (g n) (rest_low g g< n) (g< n))

  -- a step from one rest with two coefficients
  parts : (n : ℕ) → rest_of f n ≡ rest_of g n → (f n ≡ g n → ⊥) → rest_of f (suc n) ≡ rest_of g (suc n) → ⊥
  parts n same differ equal =
      apart (rest_of f n) (f n) (g n) (rest_low f f< n) (f< n) (g< n) differ
      (sym (divided_tab 8 generator f n) ∙ equal ∙ divided_tab 8 generator g n ∙ ap (λ (r : ℕ). taken_down 8 generator r (g n)) (sym same))

  differs : (k : ℕ) → ((j : ℕ) → (j ≡ k → ⊥) → f j ≡ g j) → (f k ≡ g k → ⊥) → (n : ℕ) → k < n → rest_of f n ≡ rest_of g n → ⊥
  differs k others differ zero h = absurd (not-suc-le-zero h)
  differs k others differ (suc n) h =
      split (eqb n k)
      (λ e.
      let here : n ≡ k = eqb-true n k e in
      parts n (rest_same n (λ j l. others j (λ z. omega (arith, l, z, here)))) (λ z. differ (subst (λ (m : ℕ). f m ≡ g m) here z)))
      (λ e.
      let past : n ≡ k → ⊥ = eqb-false n k e in
      goes_on n (others n past) (differs k others differ n (omega (arith, h, past))))

bit_low : (octets : List ℕ) (k : ℕ) → bit_of octets k < 2
unfolding bit_of
bit_low octets k = mod-lt _ (omega arith)

-- the coefficients of a block are bits, and a bit among the first 184 is told by its coefficient
coefficient_low : (octets : List ℕ) (k : ℕ) → coefficient_of octets k < 2
unfolding coefficient_of
coefficient_low octets k =
    split (ltb k 8) (λ e. rw e (mod-lt (bit_of octets k + 1) (omega arith)))
    (λ e. split (ltb k 184) (λ f. rw (e, f) (bit_low octets k)) (λ f. rw (e, f) (omega arith)))

coefficient_same : (a b : List ℕ) (k : ℕ) → (k < 184 → bit_of a k ≡ bit_of b k) → coefficient_of a k ≡ coefficient_of b k
unfolding coefficient_of
coefficient_same a b k same =
    split (ltb k 8) (λ e. rw e (ap (λ (x : ℕ). (x + 1) % 2) (same (omega (arith, ltb-true k 8 e)))))
    (λ e. split (ltb k 184) (λ f. rw (e, f) (same (ltb-true k 184 f))) (λ f. rw (e, f)))

coefficient_tells : (a b : List ℕ) (k : ℕ) → k < 184 → coefficient_of a k ≡ coefficient_of b k → bit_of a k ≡ bit_of b k
unfolding coefficient_of
coefficient_tells a b k h same =
    split (ltb k 8)
    (λ e. omega (arith, bit_low a k, bit_low b k, told e))
    (λ e. told_past e)
  where
    told : ltb k 8 ≡ true → (bit_of a k + 1) % 2 ≡ (bit_of b k + 1) % 2
    told e = simp e at same

    told_past : ltb k 8 ≡ false → bit_of a k ≡ bit_of b k
    told_past e = simp (e, lt-ltb k 184 h) at same

-- two blocks that differ in one bit of octets 0 to 22
pub changed_bit : (a b : List ℕ) (k : ℕ) → k < 184 → (bit_of a k ≡ bit_of b k → ⊥)
    → ((j : ℕ) → j < 184 → (j ≡ k → ⊥) → bit_of a j ≡ bit_of b j) → check_character a ≡ check_character b → ⊥
unfolding check_character
changed_bit a b k h differ others equal =
    differs (coefficient_of a) (coefficient_of b) (coefficient_low a) (coefficient_low b) k
    (λ j other. coefficient_same a b j (λ l. others j l other))
    (λ same. differ (coefficient_tells a b k h same)) 192 (omega (arith, h))
    (sym (turned_twice _ (rest_low (coefficient_of a) (coefficient_low a) 192))
    ∙ ap turned_of equal
    ∙ turned_twice _ (rest_low (coefficient_of b) (coefficient_low b) 192))
