-- Laws of a subframe: the number that its time slots make, and what its parts are as quotients and remainders.
-- Assumes nothing.
use mathlib.Core.Path.{◌≡◌, refl, sym, ◌∙◌, ap, ap₂}
use Prim.Native.Nat.{ℕ, zero, suc, ◌+◌, ◌-◌, ◌*◌, ◌/◌, ◌%◌, ◌^◌, ◌<◌}
use native.Mathlib.Nat.{zero-add, div-one, pow-suc, mul_comm, mod-one, add-zero, zero-mul, add-suc, mod-eq_of_lt}
use native.Mathlib.Numerals.{add-one}
use native.Mathlib.Omega.{arith}
use borrow.Author.Tests.{lt-ltb, le-ltb}
use lib.Arith.{mod-mul}
use lib.Count.{ones, ones_step}
use lib.Pow.{pow-add, pow_pos, shr-shr}
use Rattle.cable.specs.Slots.{time_slot, word_of, sample_in, ancillary_in, parity_of, carried_in, carried, subframe_of}

-- bits that are the same make the same number
pub word_same : {f g : ℕ → ℕ} (n : ℕ) → ((i : ℕ) → i < n → f i ≡ g i) → word_of f n ≡ word_of g n
unfolding word_of
word_same zero same = refl
word_same (suc n) same =
    ap₂ (λ (x y : ℕ). x + y * 2 ^ n) (word_same n (λ i h. same i (omega arith))) (same n (omega arith))

-- bits after others
pub word_after : (f : ℕ → ℕ) (a n : ℕ) → word_of f (a + n) ≡ word_of f a + word_of (λ i. f (a + i)) n * 2 ^ a
unfolding word_of
word_after f a zero = rw (add-zero a) (omega (arith, zero-mul (2 ^ a)))
word_after f a (suc n) = rw (add-suc a n, pow-add 2 a n) (omega (arith, word_after f a n))

-- the time slots from j on
pub word_slots : (s j n : ℕ) → word_of (λ i. time_slot s (j + i)) n ≡ s / 2 ^ j % 2 ^ n
unfolding word_of time_slot
word_slots s j zero = sym (mod-one (s / 2 ^ j))
word_slots s j (suc n) =
    rw (word_slots s j n, ← shr-shr s j n, pow-suc, mul_comm (2 ^ n) 2, mod-mul (s / 2 ^ j) {m = 2} {c = 2 ^ n} (omega arith) (pow_pos n))
    (omega arith)

pub sample_is : (s : ℕ) → sample_in s ≡ s / 2 ^ 4 % 2 ^ 24
unfolding sample_in
sample_is s = word_slots s 4 24

three_bits : (q : ℕ) → q / 4 % 2 * 4 + q / 2 % 2 * 2 + q % 2 ≡ q % 8
three_bits q = omega (arith, mod-mul q {m = 2} {c = 4} (omega arith) (omega arith), mod-mul q {m = 2} {c = 2} (omega arith) (omega arith))

pub ancillary_is : (b s : ℕ) → ancillary_in b s ≡ b * 8 + s / 2 ^ 28 % 8
unfolding ancillary_in time_slot
ancillary_is b s =
    let slots-29 : s / 2 ^ 28 / 2 ≡ s / 2 ^ 29 = shr-shr s 28 1 in
    let slots-30 : s / 2 ^ 28 / 4 ≡ s / 2 ^ 30 = shr-shr s 28 2 in
    rw (← slots-29, ← slots-30) (omega (arith, three_bits (s / 2 ^ 28)))

last_three : (f : ℕ → ℕ) → word_of f 31 ≡ word_of f 28 + f 28 * 2 ^ 28 + f 29 * 2 ^ 29 + f 30 * 2 ^ 30
unfolding word_of
last_three f = refl

-- what an exported subframe carries in time slots 4 to 30, as a number
abbrev pub carried_of : ℕ → ℕ → ℕ
carried_of sample ancillary = sample + ancillary % 8 * 2 ^ 24

module _ (sample ancillary : ℕ) (small : sample < 2 ^ 24) where
  in_audio : (i : ℕ) → i < 24 → carried_in sample ancillary (4 + i) ≡ time_slot sample (0 + i)
  unfolding carried_in time_slot
  in_audio i h =
      let back : 4 + i - 4 ≡ 0 + i = omega arith in
      rw (le-ltb (4 + i) 4 (omega arith), lt-ltb (4 + i) 28 (omega arith), back)

  no_preamble : word_of (carried_in sample ancillary) 4 ≡ 0
  unfolding word_of carried_in
  no_preamble = refl

  audio : word_of (carried_in sample ancillary) 28 ≡ sample * 16
  audio =
      word_after (carried_in sample ancillary) 4 24
      ∙ omega (arith, no_preamble, word_same 24 in_audio, word_slots sample 0 24, mod-eq_of_lt small)

  validity : carried_in sample ancillary 28 ≡ ancillary % 2
  unfolding carried_in
  validity = refl

  user : carried_in sample ancillary 29 ≡ ancillary / 2 % 2
  unfolding carried_in
  user = refl

  status : carried_in sample ancillary 30 ≡ ancillary / 4 % 2
  unfolding carried_in
  status = refl

  pub carried_is : carried sample ancillary ≡ carried_of sample ancillary * 16
  carried_is =
      last_three (carried_in sample ancillary) ∙ omega (arith, audio, validity, user, status, three_bits ancillary)

  pub subframe_is : subframe_of sample ancillary ≡ (carried_of sample ancillary + ones (carried_of sample ancillary) % 2 * 2 ^ 27) * 16
  unfolding subframe_of parity_of
  subframe_is =
      let whole : carried_of sample ancillary * 16 / 2 ^ 4 ≡ carried_of sample ancillary = omega arith in
      rw (carried_is, whole) (omega arith)

-- the count of ones is the count of time slots that carry one: the first n, and those above
abbrev slots_in : ℕ → ℕ → ℕ
slots_in subframe zero = 0
slots_in subframe (suc n) = slots_in subframe n + time_slot subframe n

counted : (x n : ℕ) → ones x ≡ slots_in x n + ones (x / 2 ^ n)
unfolding time_slot
counted x zero = ap ones (sym (div-one x)) ∙ sym (zero-add (ones (x / 1)))
counted x (suc n) = counted x n ∙ omega (arith, ones_step (x / 2 ^ n), ap ones (shr-shr x n 1 ∙ ap (λ (k : ℕ). x / 2 ^ k) (add-one n)))

-- so the parity is that of time slots 4 to 31
pub parity_by_slots : (s : ℕ) → s < 2 ^ 32 → parity_of s ≡ slots_in (s / 2 ^ 4) 28 % 2
unfolding parity_of ones
parity_by_slots s word =
    let none : s / 2 ^ 4 / 2 ^ 28 ≡ 0 = omega arith in
    ap (λ (n : ℕ). n % 2) (counted (s / 2 ^ 4) 28 ∙ ap (λ (n : ℕ). slots_in (s / 2 ^ 4) 28 + ones n) none ∙ add-zero (slots_in (s / 2 ^ 4) 28))
