-- Laws of a bit in its octet, and of the division's steps.
-- Assumes nothing.
use mathlib.Core.Bool.{Bool}
use mathlib.Core.List.{List, [], ◌∷◌, ◌++◌}
use mathlib.Core.Path.{◌≡◌, refl, sym, ◌∙◌, ap, subst}
use Prim.Native.Nat.{ℕ, suc, ◌+◌, ◌-◌, ◌*◌, ◌/◌, ◌%◌, ◌^◌, ◌≤◌, ◌<◌}
use native.Mathlib.Nat.{mod-le, div-mul-le_self, mul-le-mul_right, div-lt_iff_lt-mul, div-add-mod', mod-lt, pow-suc}
use native.Mathlib.Omega.{arith}
use lib.Arith.{mod-mul}
use lib.Bits.{bit_xor}
use lib.Dec.{ltb, ltb→lt}
use lib.Pow.{pow-add, pow_pos}
use Rattle.runs.proofs.Laws.{every_at}
use Rattle.runs.specs.Division.{taken_down, divided}
use Rattle.runs.specs.Runs.{tab}
use Rattle.runs.specs.Test.{every}

-- one more coefficient is one more step
pub divided_snoc : (degree divisor rest : ℕ) (bs : List ℕ) (b : ℕ)
    → divided degree divisor rest (bs ++ (b ∷ [])) ≡ taken_down degree divisor (divided degree divisor rest bs) b
unfolding divided
divided_snoc degree divisor rest [] b = refl
divided_snoc degree divisor rest (x ∷ bs) b = divided_snoc degree divisor (taken_down degree divisor rest x) bs b

pub divided_tab : (degree divisor : ℕ) (f : ℕ → ℕ) (n : ℕ)
    → divided degree divisor 0 (tab f (suc n)) ≡ taken_down degree divisor (divided degree divisor 0 (tab f n)) (f n)
unfolding tab
divided_tab degree divisor f n = divided_snoc degree divisor 0 (tab f n) (f n)

-- the divisor taken off leaves a rest below x^8
off_low : ℕ → Bool
off_low s = ltb (bit_xor (256 + s) 285) 256

pub xor_low : (t : ℕ) → 256 ≤ t → t < 512 → bit_xor t 285 < 256
unfolding off_low every
xor_low t h l =
    let e : 256 + (t - 256) ≡ t = omega arith in
    subst (λ (u : ℕ). bit_xor u 285 < 256) e
    (ltb→lt (bit_xor (256 + (t - 256)) 285) 256 (every_at off_low 256 tt (t - 256) (omega arith)))

-- bit j of an octet x, taken out and put in as c
module _ (x j c : ℕ) (x< : x < 256) (j< : j < 8) (c< : c < 2) where
  whole : 2 ^ (7 - j) * (2 * 2 ^ j) ≡ 256
  whole =
      let e : 7 - j + suc j ≡ 8 = omega arith in
      let p : 2 ^ (7 - j + suc j) ≡ 2 ^ (7 - j) * 2 ^ suc j = pow-add 2 (7 - j) (suc j) in
      let q : 2 ^ (7 - j + suc j) ≡ 256 = ap (λ (n : ℕ). 2 ^ n) e in
      let s : 2 ^ suc j ≡ 2 * 2 ^ j = pow-suc 2 j ∙ omega arith in
      ap (λ (n : ℕ). 2 ^ (7 - j) * n) (sym s) ∙ sym p ∙ q

  pub worth_lt : 2 ^ j < 256
  worth_lt = omega (arith, whole, pow_pos j, mul-le-mul_right {m = 1} {n = 2 ^ (7 - j)} (2 * 2 ^ j) (pow_pos (7 - j)))

  pub old_le : x / 2 ^ j % 2 * 2 ^ j ≤ x
  old_le = omega (arith, mul-le-mul_right {m = x / 2 ^ j % 2} {n = x / 2 ^ j} (2 ^ j) (mod-le (x / 2 ^ j) 2), div-mul-le_self x (2 ^ j))

  pub new_lt : c * 2 ^ j < 256
  new_lt = omega (arith, mul-le-mul_right {m = c} {n = 1} (2 ^ j) (omega arith), worth_lt)

  pub put_lt : x - x / 2 ^ j % 2 * 2 ^ j + c * 2 ^ j < 256
  put_lt =
      omega (
        arith,
        old_le,
        mul-le-mul_right {m = c} {n = 1} (2 ^ j) (omega arith),
        mod-lt x (pow_pos j),
        mod-mul x {m = 2} {c = 2 ^ j} (omega arith) (pow_pos j),
        div-add-mod' x (2 * 2 ^ j),
        whole,
        mul-le-mul_right {m = suc (x / (2 * 2 ^ j))} {n = 2 ^ (7 - j)} (2 * 2 ^ j)
            ((div-lt_iff_lt-mul {k = 2 * 2 ^ j} {x = x} {y = 2 ^ (7 - j)} (omega (arith, pow_pos j))).1 (omega (arith, whole))),
      )
