-- "The other bits stay": what each bit of a block is after one was put in.
-- Assumes nothing.
use mathlib.Core.Bool.{cond}
use mathlib.Core.List.{List}
use mathlib.Core.Path.{◌≡◌, sym, ◌∙◌, ap}
use Prim.Native.Nat.{ℕ, suc, ◌+◌, ◌-◌, ◌*◌, ◌/◌, ◌%◌, ◌^◌, ◌<◌}
use native.Mathlib.Nat.{mul-add-div_right, mul-add-mod_self_right, div-add-mod', mod-lt, pow-suc}
use native.Mathlib.Omega.{arith}
use borrow.Author.Tests.{ne_eqb, eqb-true, eqb-false, ltb-true, ltb-false}
use lib.Arith.{digits_div}
use lib.Dec.{eqb, ltb}
use lib.ListN.{length, get_or, set}
use lib.Pow.{pow-add, pow_pos, shr-shr}
use lib.Seq.{get_or-set_same, get_or-set_other}
use Rattle.runs.proofs.Laws.{split}
use Rattle.status.specs.Bits.{bit_of, octet_with, with_bit}

-- ---- a bit j of a number, by a place k
-- what stands above a higher place doesn't matter
below : (n l j d : ℕ) → (n * 2 ^ (d + suc j) + l) / 2 ^ j % 2 ≡ l / 2 ^ j % 2
below n l j d =
    let e : n * 2 ^ (d + suc j) ≡ n * 2 ^ d * 2 * 2 ^ j =
    ap (λ (m : ℕ). n * m) (pow-add 2 d (suc j) ∙ ap (λ (m : ℕ). 2 ^ d * m) (pow-suc 2 j)) ∙ omega arith in
    ap (λ (m : ℕ). (m + l) / 2 ^ j % 2) e
    ∙ ap (λ (m : ℕ). m % 2) (mul-add-div_right (pow_pos j) (n * 2 ^ d * 2) l)
    ∙ mul-add-mod_self_right (n * 2 ^ d) 2 (l / 2 ^ j)

-- what stands below a lower place doesn't matter
above : (n k d : ℕ) → n / 2 ^ (k + suc d) ≡ n / 2 ^ k / 2 / 2 ^ d
above n k d =
    ap (λ (m : ℕ). n / 2 ^ m) (omega arith) ∙ sym (shr-shr n (k + 1) d) ∙ ap (λ (m : ℕ). m / 2 ^ d) (sym (shr-shr n k 1))

module _ (x k c : ℕ) where
  -- the number by its bits above k, bit k, and the bits below
  whole : x ≡ (x / 2 ^ k / 2 * 2 + x / 2 ^ k % 2) * 2 ^ k + x % 2 ^ k
  whole = rw (div-add-mod' (x / 2 ^ k) 2, div-add-mod' x (2 ^ k))

  pub put : octet_with x k c ≡ (x / 2 ^ k / 2 * 2 + c) * 2 ^ k + x % 2 ^ k
  unfolding octet_with
  put = omega (arith, whole)

  put_high : (m : ℕ) → m < 2 → ((x / 2 ^ k / 2 * 2 + m) * 2 ^ k + x % 2 ^ k) / 2 ^ k ≡ x / 2 ^ k / 2 * 2 + m
  put_high m h = digits_div (x / 2 ^ k / 2 * 2 + m) (mod-lt x (pow_pos k))

  bit_same : c < 2 → octet_with x k c / 2 ^ k % 2 ≡ c
  bit_same h = ap (λ (m : ℕ). m / 2 ^ k % 2) put ∙ ap (λ (m : ℕ). m % 2) (put_high c h) ∙ omega arith

  bit_below : (j : ℕ) → j < k → octet_with x k c / 2 ^ j % 2 ≡ x / 2 ^ j % 2
  bit_below j h =
      let d = k - suc j in
      let e : k ≡ d + suc j = omega arith in
      let low : (n : ℕ) → (n * 2 ^ k + x % 2 ^ k) / 2 ^ j % 2 ≡ x % 2 ^ k / 2 ^ j % 2 =
      λ n. ap (λ (m : ℕ). (n * 2 ^ m + x % 2 ^ k) / 2 ^ j % 2) e ∙ below n (x % 2 ^ k) j d in
      ap (λ (m : ℕ). m / 2 ^ j % 2) put ∙ low (x / 2 ^ k / 2 * 2 + c) ∙ sym (ap (λ (m : ℕ). m / 2 ^ j % 2) whole ∙ low (x / 2 ^ k / 2 * 2 + x / 2 ^ k % 2))

  bit_above : c < 2 → (j : ℕ) → k < j → octet_with x k c / 2 ^ j % 2 ≡ x / 2 ^ j % 2
  bit_above h j l =
      let d = j - suc k in
      let e : j ≡ k + suc d = omega arith in
      let high : octet_with x k c / 2 ^ k / 2 ≡ x / 2 ^ k / 2 =
      ap (λ (m : ℕ). m / 2 ^ k / 2) put ∙ ap (λ (m : ℕ). m / 2) (put_high c h) ∙ omega arith in
      ap (λ (m : ℕ). octet_with x k c / 2 ^ m % 2) e
      ∙ ap (λ (m : ℕ). m % 2) (above (octet_with x k c) k d ∙ ap (λ (m : ℕ). m / 2 ^ d) high ∙ sym (above x k d))
      ∙ sym (ap (λ (m : ℕ). x / 2 ^ m % 2) e)

  bit_other : c < 2 → (j : ℕ) → (j ≡ k → ⊥) → octet_with x k c / 2 ^ j % 2 ≡ x / 2 ^ j % 2
  bit_other h j other =
      split (ltb j k) (λ t. bit_below j (ltb-true j k t)) (λ t. bit_above h j (omega (arith, ltb-false j k t)))

-- Bit k is the one put in, and each other bit is as it was.
pub bit_put : (octets : List ℕ) (k c i : ℕ) → length octets ≡ 24 → k < 192 → c < 2 → bit_of (with_bit octets k c) i ≡ cond (eqb i k) c (bit_of octets i)
unfolding bit_of with_bit
bit_put octets k c i long k< c< =
    split (eqb (i / 8) (k / 8))
    (λ t.
    let same : i / 8 ≡ k / 8 = eqb-true (i / 8) (k / 8) t in
    let x = get_or octets (k / 8) 0 in
    let here : get_or (set octets (k / 8) (octet_with x (k % 8) c)) (i / 8) 0 ≡ octet_with x (k % 8) c =
    ap (λ (n : ℕ). get_or (set octets (k / 8) (octet_with x (k % 8) c)) n 0) same ∙ get_or-set_same octets (k / 8) _ 0 (omega arith) in
    ap (λ (y : ℕ). y / 2 ^ (i % 8) % 2) here
    ∙ split (eqb i k)
    (λ e. rw e (ap (λ (n : ℕ). octet_with x (k % 8) c / 2 ^ (n % 8) % 2) (eqb-true i k e) ∙ bit_same x (k % 8) c c<))
    (λ e.
    let apart : i % 8 ≡ k % 8 → ⊥ = λ f. eqb-false i k e (omega arith) in
    rw e (bit_other x (k % 8) c c< (i % 8) apart ∙ ap (λ (n : ℕ). get_or octets n 0 / 2 ^ (i % 8) % 2) (sym same))))
    (λ t.
    let apart : i ≡ k → ⊥ = λ e. eqb-false (i / 8) (k / 8) t (ap (λ (n : ℕ). n / 8) e) in
    rw (ne_eqb i k apart) (ap (λ (x : ℕ). x / 2 ^ (i % 8) % 2) (get_or-set_other octets (k / 8) (i / 8) _ 0 (eqb-false (i / 8) (k / 8) t))))
