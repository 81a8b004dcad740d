-- The octets of a block of which k bits have come, and that putting in bit k brings them on.
-- Assumes nothing.
use mathlib.Core.List.{List}
use mathlib.Core.Path.{◌≡◌, sym, ◌∙◌, ap, subst}
use Prim.Native.Nat.{ℕ, suc, ◌+◌, ◌-◌, ◌*◌, ◌/◌, ◌%◌, ◌^◌, ◌<◌}
use native.Mathlib.Nat.{mod-lt, mod-one, mod-eq_of_lt, div-eq_of_lt, zero-mul, mul_comm, pow-suc}
use native.Mathlib.Omega.{arith}
use borrow.Author.Tests.{eqb-true, eqb-false}
use lib.Arith.{mod-mul}
use lib.Dec.{eqb}
use lib.ListN.{length, get_or, set, length-set, length-replicate, get_or-replicate}
use lib.Pow.{pow_pos}
use lib.Seq.{ext_get_or, get_or-set_same, get_or-set_other}
use Rattle.runs.proofs.Laws.{length_tab, get_or_tab, split}
use Rattle.runs.specs.Runs.{tab}
use Rattle.status.specs.Bits.{bit_of, octet_with, with_bit, zeros}

-- the low j bits and bit j are the low j + 1 bits
octet_more : (x j : ℕ) → octet_with (x % 2 ^ j) j (x / 2 ^ j % 2) ≡ x % 2 ^ suc j
unfolding octet_with
octet_more x j =
    rw (div-eq_of_lt (mod-lt x (pow_pos j)), pow-suc)
    (omega (arith, zero-mul (2 ^ j), mod-mul x {m = 2} {c = 2 ^ j} (omega arith) (pow_pos j), ap (λ (n : ℕ). x % n) (mul_comm 2 (2 ^ j))))

-- how many of the first k bits are octet i's
abbrev come : ℕ → ℕ → ℕ
come k i = 8 - (8 * i + 8 - k)

-- the octets with their first k bits, and zeros after them
unfoldable pub up_to : List ℕ → ℕ → List ℕ
up_to xs k = tab (λ i. get_or xs i 0 % 2 ^ come k i) 24

module _ (xs : List ℕ) where
  length_up_to : (k : ℕ) → length (up_to xs k) ≡ 24
  unfolding up_to
  length_up_to k = length_tab (λ i. get_or xs i 0 % 2 ^ come k i) 24

  get_or_up_to : (k : ℕ) {i : ℕ} → i < 24 → get_or (up_to xs k) i 0 ≡ get_or xs i 0 % 2 ^ come k i
  unfolding up_to
  get_or_up_to k h = get_or_tab (λ i. get_or xs i 0 % 2 ^ come k i) 24 h

  pub up_to_none : up_to xs 0 ≡ zeros
  up_to_none =
      ext_get_or 0 (up_to xs 0) zeros (length_up_to 0 ∙ sym (length-replicate {A = ℕ} 24 0)) (λ i h.
      let l : i < 24 = omega (arith, length_up_to 0, h) in
      let e : come 0 i ≡ 0 = omega arith in
      get_or_up_to 0 l ∙ ap (λ (n : ℕ). get_or xs i 0 % 2 ^ n) e ∙ mod-one (get_or xs i 0) ∙ sym (get_or-replicate 24 i 0 0 l))

  pub up_to_all : length xs ≡ 24 → ((i : ℕ) → get_or xs i 0 < 256) → up_to xs 192 ≡ xs
  up_to_all many small =
      ext_get_or 0 (up_to xs 192) xs (length_up_to 192 ∙ sym many) (λ i h.
      let l : i < 24 = omega (arith, length_up_to 192, h) in
      let e : come 192 i ≡ 8 = omega arith in
      get_or_up_to 192 l ∙ ap (λ (n : ℕ). get_or xs i 0 % 2 ^ n) e ∙ mod-eq_of_lt (small i))

  pub up_to_more : (k : ℕ) → k < 192 → with_bit (up_to xs k) k (bit_of xs k) ≡ up_to xs (suc k)
  unfolding with_bit bit_of
  up_to_more k h =
      ext_get_or 0 (set (up_to xs k) (k / 8) new) (up_to xs (suc k)) (length-set (up_to xs k) (k / 8) new ∙ length_up_to k ∙ sym (length_up_to (suc k))) (λ i l.
      let i< : i < 24 = omega (arith, length_up_to k, length-set (up_to xs k) (k / 8) new, l) in
      split (eqb i (k / 8)) (λ e. same i i< (eqb-true i (k / 8) e)) (λ e. other i i< (eqb-false i (k / 8) e)))
    where
      new : ℕ
      new = octet_with (get_or (up_to xs k) (k / 8) 0) (k % 8) (get_or xs (k / 8) 0 / 2 ^ (k % 8) % 2)

      here : get_or (set (up_to xs k) (k / 8) new) (k / 8) 0 ≡ get_or (up_to xs (suc k)) (k / 8) 0
      here =
          let l : k / 8 < 24 = omega arith in
          let before : come k (k / 8) ≡ k % 8 = omega arith in
          let after : suc (k % 8) ≡ come (suc k) (k / 8) = omega arith in
          let x = get_or xs (k / 8) 0 in
          get_or-set_same (up_to xs k) (k / 8) new 0 (omega (arith, length_up_to k))
          ∙ ap (λ (n : ℕ). octet_with n (k % 8) (x / 2 ^ (k % 8) % 2)) (get_or_up_to k l ∙ ap (λ (n : ℕ). x % 2 ^ n) before)
          ∙ octet_more x (k % 8)
          ∙ ap (λ (n : ℕ). x % 2 ^ n) after
          ∙ sym (get_or_up_to (suc k) l)

      same : (i : ℕ) → i < 24 → i ≡ k / 8 → get_or (set (up_to xs k) (k / 8) new) i 0 ≡ get_or (up_to xs (suc k)) i 0
      same i i< e = subst (λ (n : ℕ). get_or (set (up_to xs k) (k / 8) new) n 0 ≡ get_or (up_to xs (suc k)) n 0) (sym e) here

      other : (i : ℕ) → i < 24 → (i ≡ k / 8 → ⊥) → get_or (set (up_to xs k) (k / 8) new) i 0 ≡ get_or (up_to xs (suc k)) i 0
      other i i< e =
          let same_count : come k i ≡ come (suc k) i = omega arith in
          get_or-set_other (up_to xs k) (k / 8) i new 0 e ∙ get_or_up_to k i< ∙ ap (λ (n : ℕ). get_or xs i 0 % 2 ^ n) same_count ∙ sym (get_or_up_to (suc k) i<)
