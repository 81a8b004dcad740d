-- Long division modulo 2 gives the remainder, for every degree and every divisor whose highest coefficient is that of x^degree: that much
-- is asked of it. p = q × divisor + r, with r below x^degree; sums are exclusive ors, and products carry nothing.
-- Assumes nothing.
use mathlib.Core.List.{List, [], ◌∷◌}
use mathlib.Core.Path.{◌≡◌, sym, ◌∙◌, ap, ap₂, subst}
use Prim.Native.Nat.{ℕ, zero, suc, ◌+◌, ◌*◌, ◌/◌, ◌%◌, ◌-◌, ◌^◌, ◌≤◌, ◌<◌}
use native.Mathlib.Nat.{div-one, div-eq_of_lt, div-add-mod', mod-lt, pow-suc, pow-zero, one-mul, zero-add, zero-mul}
use native.Mathlib.Numerals.{add-one}
use native.Mathlib.Omega.{arith}
use borrow.Author.Tests.{ltb-true, ltb-false}
use lib.Bits.{bit_xor, xor_block, xor_lt, xor_zero_r}
use lib.Dec.{eqb, ltb, eqb→eq}
use lib.Pow.{pow_mono, pow_pos, shr-shr}
use Rattle.runs.specs.Division.{taken_down, divided, coefficients, remainder, multiplied, IsRemainder}
use Rattle.runs.specs.Test.{every}
use Rattle.runs.proofs.Laws.{every_at, split}

below_pow : (n : ℕ) → n < 2 ^ n
below_pow zero = pow_pos 0
below_pow (suc n) = rw pow-suc (omega (arith, below_pow n))

halves : (n : ℕ) → n ≡ n / 2 * 2 ^ 1 + n % 2
halves n = sym (div-add-mod' n 2)

-- exclusive or, bit by bit from the lowest
xor_halves : (a b : ℕ) → bit_xor a b ≡ bit_xor (a / 2) (b / 2) * 2 ^ 1 + bit_xor (a % 2) (b % 2)
xor_halves a b =
    ap₂ bit_xor (halves a) (halves b)
    ∙ xor_block 1 (a / 2) (b / 2) (a % 2) (b % 2) (mod-lt a (omega arith)) (mod-lt b (omega arith))

-- what is added to both sides falls away: of single bits, and of all numbers
same_bits : (x r d : ℕ) → x < 2 → r < 2 → d < 2 → bit_xor (bit_xor x d) (bit_xor r d) ≡ bit_xor x r
unfolding every
same_bits x r d hx hr hd =
    let first : (x * 4 + r * 2 + d) / 4 ≡ x = omega arith in
    let second : (x * 4 + r * 2 + d) / 2 % 2 ≡ r = omega arith in
    let third : (x * 4 + r * 2 + d) % 2 ≡ d = omega arith in
    let tested = eqb→eq _ _
    (every_at (λ k. eqb (bit_xor (bit_xor (k / 4) (k % 2)) (bit_xor (k / 2 % 2) (k % 2))) (bit_xor (k / 4) (k / 2 % 2))) 8 tt
    (x * 4 + r * 2 + d) (omega arith)) in
    sym (λ i. bit_xor (bit_xor (first i) (third i)) (bit_xor (second i) (third i))) ∙ tested ∙ (λ i. bit_xor (first i) (second i))

same_to : (k x r d : ℕ) → x < 2 ^ k → r < 2 ^ k → d < 2 ^ k → bit_xor (bit_xor x d) (bit_xor r d) ≡ bit_xor x r
same_to zero x r d hx hr hd =
    let ex : x ≡ 0 = omega (arith, hx, pow-zero 2) in
    let er : r ≡ 0 = omega (arith, hr, pow-zero 2) in
    let ed : d ≡ 0 = omega (arith, hd, pow-zero 2) in
    (λ i. bit_xor (bit_xor (ex i) (ed i)) (bit_xor (er i) (ed i))) ∙ sym (λ i. bit_xor (ex i) (er i))
same_to (suc k) x r d hx hr hd =
    let bit : (n : ℕ) → n % 2 < 2 = λ n. mod-lt n (omega arith) in
    let half : (n : ℕ) → n < 2 ^ suc k → n / 2 < 2 ^ k = λ n h. omega (arith, h, pow-suc 2 k) in
    ap₂ bit_xor (xor_halves x d) (xor_halves r d)
    ∙ xor_block 1 (bit_xor (x / 2) (d / 2)) (bit_xor (r / 2) (d / 2)) (bit_xor (x % 2) (d % 2)) (bit_xor (r % 2) (d % 2))
    (xor_lt 1 (x % 2) (d % 2) (bit x) (bit d))
    (xor_lt 1 (r % 2) (d % 2) (bit r) (bit d))
    ∙ ap₂ (λ (high low : ℕ). high * 2 ^ 1 + low)
    (same_to k (x / 2) (r / 2) (d / 2) (half x hx) (half r hr) (half d hd))
    (same_bits (x % 2) (r % 2) (d % 2) (bit x) (bit r) (bit d))
    ∙ sym (xor_halves x r)

same : (x r d : ℕ) → bit_xor (bit_xor x d) (bit_xor r d) ≡ bit_xor x r
same x r d =
    let fits : (n : ℕ) → n ≤ x + r + d → n < 2 ^ (x + r + d)
    = λ n h. omega (arith, below_pow n, pow_mono {i = n} {j = x + r + d} h) in
    same_to (x + r + d) x r d (fits x (omega arith)) (fits r (omega arith)) (fits d (omega arith))

-- a coefficient taken down to both a product and a rest
down_both : (product rest : ℕ) {bit : ℕ} → bit < 2 → bit_xor (product * 2) (rest * 2 + bit) ≡ bit_xor product rest * 2 + bit
down_both product rest {bit} h =
    let none : product * 2 ≡ product * 2 + 0 = omega arith in
    ap (λ (m : ℕ). bit_xor m (rest * 2 + bit)) none ∙ xor_block 1 product rest 0 bit (omega arith) h

module _ (degree divisor : ℕ) (from : 2 ^ degree ≤ divisor) (to : divisor < 2 ^ (degree + 1)) where
  -- two numbers of one degree: what stands highest falls away
  highest_off : (n : ℕ) → 2 ^ degree ≤ n → n < 2 ^ (degree + 1) → bit_xor n divisor < 2 ^ degree
  highest_off n low high =
      let twice : 2 ^ (degree + 1) ≡ 2 ^ degree * 2 = rw (add-one, pow-suc) in
      let first : n ≡ 1 * 2 ^ degree + (n - 2 ^ degree) = omega arith in
      let second : divisor ≡ 1 * 2 ^ degree + (divisor - 2 ^ degree) = omega arith in
      let less : (m : ℕ) → 2 ^ degree ≤ m → m < 2 ^ (degree + 1) → m - 2 ^ degree < 2 ^ degree = λ m l h. omega (arith, l, h, twice) in
      let both : bit_xor n divisor ≡ bit_xor (n - 2 ^ degree) (divisor - 2 ^ degree)
      = ap₂ bit_xor first second
      ∙ xor_block degree 1 1 (n - 2 ^ degree) (divisor - 2 ^ degree) (less n low high) (less divisor from to)
      ∙ ap (λ (m : ℕ). m + bit_xor (n - 2 ^ degree) (divisor - 2 ^ degree)) (zero-mul (2 ^ degree))
      ∙ zero-add (bit_xor (n - 2 ^ degree) (divisor - 2 ^ degree)) in
      rw both (xor_lt degree (n - 2 ^ degree) (divisor - 2 ^ degree) (less n low high) (less divisor from to))

  -- division from a rest on, after a product: the product goes on by some coefficients
  record Divides (p product rest n : ℕ) : Type 0 where
    quotient : List ℕ
    adds_up : p ≡ bit_xor (multiplied divisor product quotient) (divided degree divisor rest (coefficients n p))
    below : divided degree divisor rest (coefficients n p) < 2 ^ degree

  -- one coefficient more: the rest that it leaves, and the quotient's next coefficient
  one_more : (p product rest n b : ℕ) {next : ℕ} → taken_down degree divisor rest (p / 2 ^ n % 2) ≡ next
      → Divides p (bit_xor (product * 2) (b % 2 * divisor)) next n → Divides p product rest (suc n)
  unfolding multiplied divided coefficients
  one_more p product rest n b taken goes =
      record {
        quotient = b ∷ goes.quotient;
        adds_up =
            goes.adds_up
            ∙ ap
            (λ (r : ℕ).
            bit_xor (multiplied divisor (bit_xor (product * 2) (b % 2 * divisor)) goes.quotient)
            (divided degree divisor r (coefficients n p)))
            (sym taken);
        below = subst (λ (r : ℕ). divided degree divisor r (coefficients n p) < 2 ^ degree) (sym taken) goes.below;
      }

  divides : (p product rest n : ℕ) → rest < 2 ^ degree → p / 2 ^ n ≡ bit_xor product rest → Divides p product rest n
  unfolding multiplied divided coefficients taken_down
  divides p product rest zero less so_far = record { quotient = []; adds_up = sym (div-one p) ∙ so_far; below = less }
  divides p product rest (suc n) less so_far =
      let bit : ℕ = p / 2 ^ n % 2 in
      let small : bit < 2 = mod-lt (p / 2 ^ n) (omega arith) in
      let above : p / 2 ^ n / 2 ≡ bit_xor product rest = shr-shr p n 1 ∙ ap (λ (k : ℕ). p / 2 ^ k) (add-one n) ∙ so_far in
      let down : p / 2 ^ n ≡ bit_xor (product * 2) (rest * 2 + bit)
      = sym (div-add-mod' (p / 2 ^ n) 2) ∙ ap (λ (m : ℕ). m * 2 + bit) above ∙ sym (down_both product rest small) in
      split (ltb (rest * 2 + bit) (2 ^ degree))
      (λ t.
      one_more p product rest n 0 (rw t)
      (divides p (bit_xor (product * 2) (0 * divisor)) (rest * 2 + bit) n (ltb-true _ _ t)
      (down ∙ ap (λ (m : ℕ). bit_xor m (rest * 2 + bit)) (sym (ap (bit_xor (product * 2)) (zero-mul divisor) ∙ xor_zero_r (product * 2))))))
      (λ t.
      one_more p product rest n 1 (rw t)
      (divides p (bit_xor (product * 2) (1 * divisor)) (bit_xor (rest * 2 + bit) divisor) n
      (highest_off (rest * 2 + bit) (ltb-false _ _ t) (rw (add-one, pow-suc) (omega (arith, less, small))))
      (down
      ∙ sym (same (product * 2) (rest * 2 + bit) divisor)
      ∙ ap (λ (m : ℕ). bit_xor (bit_xor (product * 2) m) (bit_xor (rest * 2 + bit) divisor)) (sym (one-mul divisor)))))

  pub is_remainder : (n : ℕ) {p : ℕ} → p < 2 ^ n → IsRemainder degree divisor p (remainder degree divisor n p)
  is_remainder n {p} fits =
      let all = divides p 0 0 n (pow_pos degree) (div-eq_of_lt fits) in
      record { quotient = all.quotient; adds_up = all.adds_up; below = all.below }
