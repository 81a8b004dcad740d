-- Laws of marks: the number of all five low bits by the protection bits, and that its bits fix it.
-- Assumes nothing.
use mathlib.Core.Bool.{Bool, cond}
use mathlib.Core.List.{List, [], ◌∷◌}
use mathlib.Core.Path.{◌≡◌, sym, ◌∙◌, ap, ap₂, subst}
use Prim.Native.Nat.{ℕ, zero, suc, ◌+◌, ◌*◌, ◌/◌, ◌%◌, ◌^◌, ◌<◌}
use native.Mathlib.Nat.{div-one, pow-suc, mod-lt}
use native.Mathlib.Omega.{arith}
use lib.Bits.{bit_xor}
use lib.Dec.{T, eqb, ltb, eqb→eq, ltb→lt}
use lib.ListN.{get_or}
use lib.Pow.{shr-shr}
use Rattle.runs.specs.Division.{coefficients, divided, taken_down}
use Rattle.runs.specs.Test.{every}
use Rattle.runs.proofs.Laws.{every_at}
use Rattle.guards.specs.Guards.{VOrNone, no_v, v_in, protected_bits, ten_guard}
use Rattle.guards.proofs.Laws.{with_v_lem, guards_without_v, without_v, ten_guard_lt}
use Rattle.tables.specs.Marks.{mark_bit, MarksBy, MarksOf, MarksWithoutV}
use Rattle.tables.specs.declared.TheConstants.{PROTECTION, MARKS, MARKS_WITHOUT_V}

-- a number has the marks of nine bits whose protection bits these low bits say
unfoldable fits : ℕ → (ℕ → ℕ) → Bool
fits bits guard = every (λ low. eqb (bits / 2 ^ low % 2) (cond (eqb (low % 8) (guard low)) 0 1)) 32

marks_by : (v : ℕ → VOrNone) (guard : ℕ → ℕ) (bits : ℕ) → T (fits bits guard) → (nine : ℕ)
    → ((low : ℕ) → low < 32 → guard low ≡ ten_guard (protected_bits nine (v low))) → MarksBy v nine bits
unfolding fits mark_bit
marks_by v guard bits t nine each low less =
    eqb→eq _ _ (every_at (λ k. eqb (bits / 2 ^ k % 2) (cond (eqb (k % 8) (guard k)) 0 1)) 32 t low less)
    ∙ ap (λ (x : ℕ). cond (eqb (low % 8) x) 0 1) (each low less)

-- for the protection bits 0 to 7 that V = 0 gives: the marks with V, and those without it
abbrev pub words : List ℕ
words = 0xF7F7FEFE ∷ 0xFBFBFDFD ∷ 0xFDFDFBFB ∷ 0xFEFEF7F7 ∷ 0x7F7FEFEF ∷ 0xBFBFDFDF ∷ 0xDFDFBFBF ∷ 0xEFEF7F7F ∷ []

abbrev pub bares : List ℕ
bares = 0xFDFDFDFD ∷ 0xEFEFEFEF ∷ 0xFEFEFEFE ∷ 0xDFDFDFDF ∷ 0xF7F7F7F7 ∷ 0xBFBFBFBF ∷ 0xFBFBFBFB ∷ 0x7F7F7F7F ∷ []

-- the protection bits with this V, and those without V
abbrev with : ℕ → ℕ → ℕ
with guard low = bit_xor guard (low / 16 * 3)

abbrev without : ℕ → ℕ → ℕ
without guard low = get_or guards_without_v guard 0

module _ (guard : ℕ) (few : guard < 8) {nine : ℕ} (h : nine < 512) (e : ten_guard (protected_bits nine (v_in 0)) ≡ guard) where
  marks : MarksOf nine (get_or words guard 0) × (get_or words guard 0 < 4294967296)
  unfolding every fits
  marks = (
    marks_by (λ low. v_in (low / 16)) (with guard) (get_or words guard 0) (every_at (λ g. fits (get_or words g 0) (with g)) 8 tt guard few)
        nine
        (λ low less.
        ap₂ (λ (x y : ℕ). bit_xor x (y * 3)) (sym e) (let odd : low / 16 ≡ low / 16 % 2 = omega arith in odd)
        ∙ with_v_lem {nine = nine} (low / 16) h),
    ltb→lt _ _ (every_at (λ g. ltb (get_or words g 0) 4294967296) 8 tt guard few),
  )

  bare : MarksWithoutV nine (get_or bares guard 0) × (get_or bares guard 0 < 4294967296)
  unfolding every fits
  bare = (
    marks_by (λ low. no_v) (without guard) (get_or bares guard 0)
        (every_at (λ g. fits (get_or bares g 0) (without g)) 8 tt guard few)
        nine
        (λ low less. ap (λ (g : ℕ). get_or guards_without_v g 0) (sym e) ∙ without_v h),
    ltb→lt _ _ (every_at (λ g. ltb (get_or bares g 0) 4294967296) 8 tt guard few),
  )

-- the tables are right at each of the 512 numbers of nine bits, by computing
protection_test : ℕ → Bool
protection_test nine = eqb (get_or PROTECTION nine 0) (ten_guard (protected_bits nine (v_in 0)))

pub protection_at : (nine : ℕ) → nine < 512 → get_or PROTECTION nine 0 ≡ ten_guard (protected_bits nine (v_in 0))
unfolding protection_test every protected_bits ten_guard coefficients divided taken_down
protection_at nine less = eqb→eq _ _ (every_at protection_test 512 tt nine less)

marks_test : List ℕ → List ℕ → ℕ → Bool
marks_test table by nine = eqb (get_or table nine 0) (get_or by (get_or PROTECTION nine 0) 0)

module _ (nine : ℕ) (h : nine < 512) where
  few : get_or PROTECTION nine 0 < 8
  few = rw (protection_at nine h) (ten_guard_lt (protected_bits nine (v_in 0)))

  pub marks_at : MarksOf nine (get_or MARKS nine 0) × (get_or MARKS nine 0 < 4294967296)
  unfolding marks_test every
  marks_at =
      let is : get_or MARKS nine 0 ≡ get_or words (get_or PROTECTION nine 0) 0 = eqb→eq _ _ (every_at (marks_test MARKS words) 512 tt nine h) in
      subst (λ (n : ℕ). MarksOf nine n × (n < 4294967296)) (sym is) (marks (get_or PROTECTION nine 0) few h (sym (protection_at nine h)))

  pub bare_at : MarksWithoutV nine (get_or MARKS_WITHOUT_V nine 0) × (get_or MARKS_WITHOUT_V nine 0 < 4294967296)
  unfolding marks_test every
  bare_at =
      let is : get_or MARKS_WITHOUT_V nine 0 ≡ get_or bares (get_or PROTECTION nine 0) 0
      = eqb→eq _ _ (every_at (marks_test MARKS_WITHOUT_V bares) 512 tt nine h) in
      subst (λ (n : ℕ). MarksWithoutV nine n × (n < 4294967296)) (sym is) (bare (get_or PROTECTION nine 0) few h (sym (protection_at nine h)))

-- numbers below a power of two with the same bits are equal
pub same_bits : (n : ℕ) {x y : ℕ} → x < 2 ^ n → y < 2 ^ n → ((low : ℕ) → low < n → x / 2 ^ low % 2 ≡ y / 2 ^ low % 2) → x ≡ y
same_bits zero hx hy each = omega arith
same_bits (suc n) {x} {y} hx hy each =
    let first : x % 2 ≡ y % 2 = ap (λ (k : ℕ). k % 2) (sym (div-one x)) ∙ each 0 (omega arith) ∙ ap (λ (k : ℕ). k % 2) (div-one y) in
    let double : 2 ^ suc n ≡ 2 ^ n * 2 = pow-suc 2 n in
    let rest : x / 2 ≡ y / 2
    = same_bits n (omega (arith, double)) (omega (arith, double))
    (λ low less.
    ap (λ (k : ℕ). k % 2) (half x low) ∙ each (suc low) (omega arith) ∙ ap (λ (k : ℕ). k % 2) (sym (half y low))) in
    omega arith
  where
    half : (z low : ℕ) → z / 2 / 2 ^ low ≡ z / 2 ^ suc low
    half z low = shr-shr z 1 low ∙ ap (λ (k : ℕ). z / 2 ^ k) (let one : 1 + low ≡ suc low = omega arith in one)
