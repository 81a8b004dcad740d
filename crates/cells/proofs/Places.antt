-- Laws of the steps that both ends take: from place to place in order 1, and octets turned round.
-- Assumes nothing.
use Rattle.std.proofs.Common.{◌≡◌, ℕ, ◌+◌, ◌-◌, ◌*◌, ◌/◌, ◌%◌, ◌^◌, ◌<◌, ◌≤◌, Bool, true, false, cond, ltb, sym, ap, ◌∙◌, mod-lt, mod-eq_of_lt, arith, shr-shr, le-ltb, lt-ltb}
use lib.Arith.{digits_div, mod-mul}
use Rattle.cells.specs.Code.{step_on, turned_two, turned_four}

pub step_further : (step used at : ℕ) → at < used - step → at + step < 2 ^ 64 → at + step ≡ step_on step used at % 2 ^ 64
unfolding step_on
step_further step used at inside small =
    rw (lt-ltb (at + step) used (omega arith), mod-eq_of_lt small)

-- what wraps back is the step past the last place
pub step_back : (step used at r next : ℕ) → used - step ≤ at → r < 2 ^ 64 → next ≡ (at + step) % 2 ^ 64
    → (r + (used - 1)) % 2 ^ 64 ≡ next → r ≡ step_on step used at % 2 ^ 64
unfolding step_on
step_back step used at r next past small next_is wraps =
    rw (le-ltb (at + step) used (omega arith)) (omega (arith, wraps, next_is))

-- in a cell no step wraps
pub step_fits : (step used : ℕ) {at : ℕ} → at < used → used ≤ 48 → step ≤ 48 → step_on step used at % 2 ^ 64 ≡ step_on step used at
unfolding step_on
step_fits step used {at} inside few short =
    mod-eq_of_lt (below (ltb (at + step) used))
  where
    below : (b : Bool) → cond b (at + step) (at + step - (used - 1)) < 2 ^ 64
    below true = omega arith
    below false = omega arith

-- four octets turned round are each two turned round, the later two first
pub turned_halves : (x : ℕ) → turned_four x ≡ turned_two (x % 65536) * 65536 + turned_two (x / 65536)
turned_halves x =
    let last : x % 65536 % 256 ≡ x % 256 = omega arith in
    let low : x % 65536 ≡ x / 256 % 256 * 256 + x % 256 = mod-mul x {m = 256} {c = 256} (omega arith) (omega arith) in
    let third : x % 65536 / 256 % 256 ≡ x / 256 % 256
    = ap (λ (n : ℕ). n % 256) (ap (λ (n : ℕ). n / 256) low ∙ digits_div (x / 256 % 256) (mod-lt x (omega arith))) ∙ omega arith in
    let first : x / 65536 / 256 % 256 ≡ x / 16777216 % 256 = ap (λ (n : ℕ). n % 256) (shr-shr x 16 8) in
    sum (x / 65536 % 256) (sym last) (sym third) (sym first)
  where
    sum : {a b c a₁ b₁ c₁ : ℕ} (d : ℕ) → a ≡ a₁ → b ≡ b₁ → c ≡ c₁
        → a * 16777216 + b * 65536 + d * 256 + c ≡ (a₁ * 256 + b₁) * 65536 + (d * 256 + c₁)
    sum d e f g = omega (arith, e, f, g)
