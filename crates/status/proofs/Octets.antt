-- Laws of the division, an octet at a time.
-- Assumes nothing.
use mathlib.Core.Bool.{Bool}
use mathlib.Core.List.{List}
use mathlib.Core.Path.{◌≡◌, sym, ◌∙◌, ap}
use Prim.Native.Nat.{ℕ, zero, suc, ◌+◌, ◌-◌, ◌*◌, ◌/◌, ◌%◌, ◌^◌, ◌<◌}
use native.Mathlib.Nat.{zero-div}
use native.Mathlib.Omega.{arith}
use borrow.Author.Tests.{eqb-true, eqb-false, ltb-true, ltb-false, lt-ltb, le-ltb}
use lib.Dec.{eqb, ltb, eqb→eq}
use lib.ListN.{get_or}
use Rattle.runs.specs.Division.{divided, taken_down}
use Rattle.runs.specs.Runs.{tab}
use Rattle.runs.specs.Test.{every}
use Rattle.runs.proofs.Laws.{split, every_at, length_tab, get_or_tab, tab_is}
use Rattle.status.specs.Bits.{bit_of}
use Rattle.status.specs.Check.{coefficient_of, generator}
use Rattle.status.specs.Eight.{divided_octet, octet_down}
use Rattle.status.proofs.Laws.{divided_snoc}

-- more coefficients are divided on from the rest of those before them
divided_more : (degree divisor : ℕ) (f : ℕ → ℕ) (n m : ℕ)
    → divided degree divisor 0 (tab f (n + m)) ≡ divided degree divisor (divided degree divisor 0 (tab f n)) (tab (λ j. f (n + j)) m)
unfolding tab divided
divided_more degree divisor f n zero = let same : n + 0 ≡ n = omega arith in ap (λ (k : ℕ). divided degree divisor 0 (tab f k)) same
divided_more degree divisor f n (suc m) =
    let same : n + suc m ≡ suc (n + m) = omega arith in
    ap (λ (k : ℕ). divided degree divisor 0 (tab f k)) same
    ∙ divided_snoc degree divisor 0 (tab f (n + m)) (f (n + m))
    ∙ ap (λ (r : ℕ). taken_down degree divisor r (f (n + m))) (divided_more degree divisor f n m)
    ∙ sym (divided_snoc degree divisor (divided degree divisor 0 (tab f n)) (tab (λ j. f (n + j)) m) (f (n + m)))

-- the bits of an octet turned over
turned_over : ℕ → Bool
turned_over n = eqb ((n / 8 / 2 ^ (n % 8) % 2 + 1) % 2) ((255 - n / 8) / 2 ^ (n % 8) % 2)

over_bit : (x j : ℕ) → x < 256 → j < 8 → (x / 2 ^ j % 2 + 1) % 2 ≡ (255 - x) / 2 ^ j % 2
unfolding turned_over every
over_bit x j small h =
    let high : (x * 8 + j) / 8 ≡ x = omega arith in
    let low : (x * 8 + j) % 8 ≡ j = omega arith in
    let at : ((x * 8 + j) / 8 / 2 ^ ((x * 8 + j) % 8) % 2 + 1) % 2 ≡ (255 - (x * 8 + j) / 8) / 2 ^ ((x * 8 + j) % 8) % 2 =
    eqb→eq _ _ (every_at turned_over 2048 tt (x * 8 + j) (omega arith)) in
    (rw (high, low) at at)

-- the coefficients from place 8k on are the bits of that octet
module _ (block : List ℕ) (k j : ℕ) (h : j < 8) where
  bit_at : bit_of block (8 * k + j) ≡ get_or block k 0 / 2 ^ j % 2
  unfolding bit_of
  bit_at =
      let place : (8 * k + j) / 8 ≡ k = omega arith in
      let bit : (8 * k + j) % 8 ≡ j = omega arith in
      rw (place, bit)

  coefficient_at : get_or block k 0 < 256 → k < 24 → coefficient_of block (8 * k + j) ≡ divided_octet (get_or block k 0) k / 2 ^ j % 2
  unfolding coefficient_of divided_octet
  coefficient_at small few =
      split (eqb k 0)
      (λ e. rw (lt-ltb (8 * k + j) 8 (omega (arith, eqb-true k 0 e)), bit_at, e) (over_bit (get_or block k 0) j small h))
      (λ e.
      let some = eqb-false k 0 e in
      split (ltb k 23)
      (λ l. rw (le-ltb (8 * k + j) 8 (omega (arith, some)), lt-ltb (8 * k + j) 184 (omega (arith, ltb-true k 23 l)), bit_at, e, l))
      (λ l. rw (le-ltb (8 * k + j) 8 (omega (arith, some)), le-ltb (8 * k + j) 184 (omega (arith, ltb-false k 23 l)), e, l, zero-div (2 ^ j))))

-- one octet more
pub octet_more : (block : List ℕ) (k : ℕ) → get_or block k 0 < 256 → k < 24
    → octet_down (divided 8 generator 0 (tab (coefficient_of block) (8 * k))) (divided_octet (get_or block k 0) k)
    ≡ divided 8 generator 0 (tab (coefficient_of block) (8 * (k + 1)))
unfolding octet_down
octet_more block k small few =
    let f = coefficient_of block in
    let octet = divided_octet (get_or block k 0) k in
    let same : tab (λ j. f (8 * k + j)) 8 ≡ tab (λ j. octet / 2 ^ j % 2) 8 =
    tab_is (λ j. f (8 * k + j)) 8 (tab (λ j. octet / 2 ^ j % 2) 8) (length_tab _ 8)
    (λ j h. coefficient_at block k j h small few ∙ sym (get_or_tab (λ i. octet / 2 ^ i % 2) 8 h)) in
    let all : 8 * k + 8 ≡ 8 * (k + 1) = omega arith in
    ap (λ (xs : List ℕ). divided 8 generator (divided 8 generator 0 (tab f (8 * k))) xs) (sym same)
    ∙ sym (divided_more 8 generator f (8 * k) 8)
    ∙ ap (λ (n : ℕ). divided 8 generator 0 (tab f n)) all
