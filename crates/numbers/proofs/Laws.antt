-- Laws of the sequencing word: Table A.1's division rule and its distance, each by one test over the table; which eight bits are
-- a number; and that a word read back gives its number and second number.
-- Assumes nothing.
use Rattle.std.specs.Prelude.{Option, Some, None}
use Rattle.std.proofs.Common.{◌≡◌, ℕ, zero, suc, ◌+◌, ◌-◌, ◌*◌, ◌/◌, ◌%◌, ◌^◌, ◌<◌, ◌≤◌, Bool, true, false, cond, ◌||◌, T, eqb, ltb, leb, List, [], ◌∷◌, length, get_or, sym, refl, ap, ◌∙◌, ap₂, le_refl, le_of_suc-le-suc, not-suc-le-zero, mod-lt, div-add-mod', arith, eqb→eq, leb→le, pow_mono, ltb-false, ltb-true, le-ltb, lt-ltb, eq-eqb, ne_eqb, eqb-true}
use native.Mathlib.Nat.{le_step, div-eq_of_lt, add-mul-mod_self_right, mod-add-mod}
use lib.Arith.{digits_div, digits_mod, digits_lt}
use lib.Bits.{bit_xor}
use lib.Count.{ones, ones_in}
use Rattle.runs.specs.Division.{coefficients, divided, taken_down, remainder}
use Rattle.runs.specs.Test.{every}
use Rattle.runs.proofs.Laws.{every_at, split, or_right}
use Rattle.numbers.specs.Numbers.{difference_of, table_a1, entry_of, turned, protection_of, seven_of, divided_entry, place_in, number_in, found_of, refusal_of, value_of, Finds, word_bit, gathered, eight_of, second_of}
use Rattle.numbers.specs.Code.{sequence_of}

-- each entry is what the division and the parity make of its number
pub table_divides : {number : ℕ} → number < 16 → entry_of number ≡ divided_entry number
unfolding every table_a1 divided_entry seven_of protection_of turned coefficients divided taken_down ones ones_in
table_divides {number} h =
    eqb→eq (entry_of number) (divided_entry number) (every_at (λ n. eqb (entry_of n) (divided_entry n)) 16 tt number h)

-- the test of two entries, the pair told as one number
apart : ℕ → Bool
apart pair =
    eqb (pair / 16) (pair % 16) || leb 4 (ones (bit_xor (entry_of (pair / 16)) (entry_of (pair % 16))))

-- "Any two differ in at least four bits."
pub table_apart : {i j : ℕ} → i < 16 → j < 16 → (i ≡ j → ⊥) → 4 ≤ ones (bit_xor (entry_of i) (entry_of j))
unfolding every apart table_a1 ones ones_in
table_apart {i} {j} hi hj other =
    let high : (i * 16 + j) / 16 ≡ i = digits_div i hj in
    let low : (i * 16 + j) % 16 ≡ j = digits_mod i hj in
    let tested : T (apart (i * 16 + j)) = every_at apart 256 tt (i * 16 + j) (digits_lt hi hj) in
    let said : T (eqb i j || leb 4 (ones (bit_xor (entry_of i) (entry_of j)))) = rw (high, low) at tested in
    leb→le 4 (ones (bit_xor (entry_of i) (entry_of j))) (or_right (eqb i j) _ (ne_eqb i j other) said)

pub turned_lt : (n : ℕ) → turned n < 16
unfolding turned
turned_lt n = omega arith

-- the division as the code does it, the first bit lowest: one term of four is taken off at each step
abbrev pub from_five_of : ℕ → ℕ
from_five_of n = bit_xor n (n % 2 * 13)

abbrev pub from_four_of : ℕ → ℕ
from_four_of n = bit_xor (from_five_of n) (from_five_of n / 2 % 2 * 26)

abbrev pub from_three_of : ℕ → ℕ
from_three_of n = bit_xor (from_four_of n) (from_four_of n / 4 % 2 * 52)

abbrev pub left_low : ℕ → ℕ
left_low n = bit_xor (from_three_of n) (from_three_of n / 8 % 2 * 104)

-- what it leaves is the paper's remainder, turned round, in bits 5 to 7
abbrev pub turned_remainder : ℕ → ℕ
turned_remainder number = turned (remainder 3 0b1011 7 (turned number * 8) * 2) * 16

pub left_right : (number : ℕ) → number < 16 → left_low number ≡ turned_remainder number
unfolding every turned coefficients divided taken_down
left_right number h = eqb→eq _ _ (every_at (λ n. eqb (left_low n) (turned_remainder n)) 16 tt number h)

-- with the number's own bits before its complement and the parity after it, that is the table's entry, the first bit lowest
abbrev pub seven_low : ℕ → ℕ → ℕ
seven_low number rest = (number + bit_xor rest 112) % 256

abbrev pub complemented : ℕ → ℕ
complemented number = bit_xor (turned_remainder number) 112

pub complement_lt : (number : ℕ) → number < 16 → complemented number < 128
unfolding every turned coefficients divided taken_down
complement_lt number h = leb→le _ _ (every_at (λ n. ltb (complemented n) 128) 16 tt number h)

eight_low : ℕ → ℕ
eight_low number =
    seven_low number (turned_remainder number) + ones (seven_low number (turned_remainder number)) % 2 * 128

pub eight_right : (number : ℕ) {rest : ℕ} → number < 16 → rest ≡ turned_remainder number
    → seven_low number rest + ones (seven_low number rest) % 2 * 128 ≡ sequence_of (entry_of number) 0
unfolding every eight_low table_a1 turned sequence_of coefficients divided taken_down ones ones_in
eight_right number h e =
    ap (λ (r : ℕ). seven_low number r + ones (seven_low number r) % 2 * 128) e
    ∙ eqb→eq _ _ (every_at (λ n. eqb (eight_low n) (sequence_of (entry_of n) 0)) 16 tt number h)

pub seven_lt : (number : ℕ) {rest : ℕ} → number < 16 → rest ≡ turned_remainder number → seven_low number rest < 128
unfolding every turned coefficients divided taken_down
seven_lt number {rest} h e =
    rw e (leb→le _ _ (every_at (λ n. ltb (seven_low n (turned_remainder n)) 128) 16 tt number h))

-- turned round it is the entry
pub entry_right : (number : ℕ) {eight : ℕ} → number < 16 → eight ≡ sequence_of (entry_of number) 0
    → turned eight * 16 + turned (eight / 16) ≡ entry_of number
unfolding every table_a1 turned sequence_of
entry_right number h e =
    ap (λ (n : ℕ). turned n * 16 + turned (n / 16)) e
    ∙ eqb→eq _ _
    (every_at (λ n. eqb (turned (sequence_of (entry_of n) 0) * 16 + turned (sequence_of (entry_of n) 0 / 16)) (entry_of n)) 16 tt number h)

-- what the number in the first four bits asks of the other four finds: the number, and 16 for none
looked : ℕ → ℕ
looked word =
    cond (eqb (sequence_of (entry_of (turned (word / 16) % 16)) 0 / 16) (turned word)) (turned (word / 16)) 16

looked_right : {word : ℕ} → word < 256 → looked word ≡ number_in word
unfolding every looked table_a1 turned place_in sequence_of
looked_right {word} h =
    eqb→eq (looked word) (number_in word) (every_at (λ w. eqb (looked w) (number_in w)) 256 tt word h)

found_none : (word : ℕ) → number_in word ≡ 16 → None ≡ found_of word
unfolding found_of
found_none word e = rw e

found_number : (word : ℕ) {n : ℕ} → number_in word ≡ n → n < 16 → Some n ≡ found_of word
unfolding found_of
found_number word e h = rw (e, lt-ltb _ _ h)

-- what the number in a word's first four bits asks of the other four
abbrev pub other_four : ℕ → ℕ
other_four word = sequence_of (entry_of (turned (word / 16) % 16)) 0 / 16

module _ {word : ℕ} (h : word < 256) where
  pub four_number : other_four word ≡ turned word → Some (turned (word / 16)) ≡ found_of word
  unfolding looked
  four_number e = found_number word (sym (looked_right h) ∙ rw (eq-eqb _ _ e)) (turned_lt (word / 16))

  pub four_nothing : (other_four word ≡ turned word → ⊥) → None ≡ found_of word
  unfolding looked
  four_nothing e = found_none word (sym (looked_right h) ∙ rw (ne_eqb _ _ e))

-- a number's entry is that number, and eight bits that are a number are its entry: sound and complete
pub number_entry : {number : ℕ} → number < 16 → number_in (entry_of number) ≡ number
unfolding every table_a1 place_in
number_entry {number} h =
    eqb→eq (number_in (entry_of number)) number (every_at (λ n. eqb (number_in (entry_of n)) n) 16 tt number h)

place_entry : (w : ℕ) (xs : List ℕ) → place_in w xs < length xs → get_or xs (place_in w xs) 0 ≡ w
unfolding place_in
place_entry w [] h = absurd (not-suc-le-zero h)
place_entry w (x ∷ xs) h = go (eqb x w) refl (place_entry w xs) h
  where
    go : (b : Bool) → eqb x w ≡ b → (place_in w xs < length xs → get_or xs (place_in w xs) 0 ≡ w)
        → cond b 0 (suc (place_in w xs)) < suc (length xs)
        → get_or (x ∷ xs) (cond b 0 (suc (place_in w xs))) 0 ≡ w
    go true e later l = eqb-true x w e
    go false e later l = later (le_of_suc-le-suc l)

pub entry_number_in : (word : ℕ) → number_in word < 16 → entry_of (number_in word) ≡ word
unfolding table_a1
entry_number_in word h = place_entry word table_a1 h

-- the first eight bits of a word are its number bits, and bits 9 to 12 its second number
pub eight_back : {word : ℕ} (second : ℕ) → word < 256 → eight_of (word_bit word second) ≡ word
unfolding every word_bit gathered
eight_back {word} second h =
    eqb→eq (eight_of (word_bit word second)) word (every_at (λ w. eqb (eight_of (word_bit w second)) w) 256 tt word h)

pub second_back : (word : ℕ) {second : ℕ} → second < 16 → second_of (word_bit word second) ≡ second
unfolding every word_bit
second_back word {second} h =
    eqb→eq (second_of (word_bit word second)) second (every_at (λ s. eqb (second_of (word_bit word s)) s) 16 tt second h)

-- bits 9 to 12 of a word one by one, and those after them
pub second_bit : (word second : ℕ) {i : ℕ} → i < 4 → word_bit word second (8 + i) ≡ second / 2 ^ i % 2
unfolding word_bit
second_bit word second {i} h =
    rw (le-ltb (8 + i) 8 (omega arith), lt-ltb (8 + i) 12 (omega arith))
    (ap (λ (k : ℕ). second / 2 ^ k % 2) (let place : 8 + i - 8 ≡ i = omega arith in place))

pub later_bit : (word second : ℕ) {slot : ℕ} → 12 ≤ slot → word_bit word second slot ≡ 0
unfolding word_bit
later_bit word second {slot} h = rw (le-ltb slot 8 (omega arith), le-ltb slot 12 h)

pub entry_lt : {number : ℕ} → number < 16 → entry_of number < 256
unfolding every table_a1
entry_lt {number} h = leb→le _ _ (every_at (λ n. ltb (entry_of n) 256) 16 tt number h)

-- the first eight bits of a number, the first one lowest, and the second number after them
pub eight_lt : (number : ℕ) → number < 16 → sequence_of (entry_of number) 0 < 256
unfolding every table_a1 turned sequence_of
eight_lt number h = leb→le _ _ (every_at (λ n. ltb (sequence_of (entry_of n) 0) 256) 16 tt number h)

pub eight_and_second : (number second : ℕ) {first : ℕ} → first ≡ sequence_of (entry_of number) 0
    → first + second * 256 ≡ sequence_of (entry_of number) second
unfolding sequence_of
eight_and_second number second e = omega (arith, e)

pub bit_lt : (word second slot : ℕ) → word_bit word second slot < 2
unfolding word_bit
bit_lt word second slot =
    either (ltb slot 8) (mod-lt _ (omega arith)) (either (ltb slot 12) (mod-lt _ (omega arith)) (omega arith))
  where
    either : (b : Bool) {x y : ℕ} → x < 2 → y < 2 → cond b x y < 2
    either true hx hy = hx
    either false hx hy = hy

sequence_lt : (word : ℕ) {second : ℕ} → second < 16 → sequence_of word second < 2 ^ 12
unfolding sequence_of
sequence_lt word {second} h = omega (arith, turned_lt (word / 16), turned_lt (word % 16))

-- the bits of a sequence are those of its slots
early : ℕ → ℕ → Bool
early slot pair = eqb (sequence_of (pair / 16) (pair % 16) / 2 ^ slot % 2) (word_bit (pair / 16) (pair % 16) slot)

early_right : {slot word second : ℕ} → slot < 12 → word < 256 → second < 16
    → sequence_of word second / 2 ^ slot % 2 ≡ word_bit word second slot
unfolding every early sequence_of turned word_bit
early_right {slot} {word} {second} hk hw hs =
    let high : (word * 16 + second) / 16 ≡ word = digits_div word hs in
    let low : (word * 16 + second) % 16 ≡ second = digits_mod word hs in
    let tested : T (every (early slot) 4096) = every_at (λ k. every (early k) 4096) 12 tt slot hk in
    let told : T (early slot (word * 16 + second)) = every_at (early slot) 4096 tested (word * 16 + second) (digits_lt hw hs) in
    let same : sequence_of ((word * 16 + second) / 16) ((word * 16 + second) % 16) / 2 ^ slot % 2
    ≡ word_bit ((word * 16 + second) / 16) ((word * 16 + second) % 16) slot
    = eqb→eq _ _ told in
    rw (high, low) at same

pub sequence_bit : {word second : ℕ} (slot : ℕ) → word < 256 → second < 16
    → sequence_of word second / 2 ^ slot % 2 ≡ word_bit word second slot
unfolding word_bit
sequence_bit {word} {second} slot hw hs =
    split (ltb slot 12)
    (λ t. early_right (ltb-true slot 12 t) hw hs)
    (λ t.
    let far = ltb-false slot 12 t in
    let less : sequence_of word second < 2 ^ slot = late far in
    ap (λ (n : ℕ). n % 2) (div-eq_of_lt less) ∙ sym (rw (le-ltb slot 8 (omega arith), t)))
  where
    late : 12 ≤ slot → sequence_of word second < 2 ^ slot
    late far =
        let high : 2 ^ 12 ≤ 2 ^ slot = pow_mono {i = 12} {j = slot} far in
        let small : sequence_of word second < 2 ^ 12 = sequence_lt word hs in
        omega arith

-- what wraps modulo 256 is, modulo 16, the difference
pub wraps_difference : (r number last : ℕ) → (r + last) % 256 ≡ number → r % 16 ≡ difference_of number last
unfolding difference_of
wraps_difference r number last e =
    let part : last ≡ last / 16 * 16 + last % 16 = sym (div-add-mod' last 16) in
    let less : last % 16 < 16 = mod-lt last (omega arith) in
    let whole : r + last + (16 - last % 16) ≡ r + (last / 16 + 1) * 16 = omega arith in
    let low : number % 16 ≡ (r + last) % 16 = ap (λ (n : ℕ). n % 16) (sym e) ∙ omega arith in
    sym (add-mul-mod_self_right r (last / 16 + 1) 16)
    ∙ ap (λ (n : ℕ). n % 16) (sym whole)
    ∙ sym (mod-add-mod (r + last) 16 (16 - last % 16))
    ∙ ap (λ (n : ℕ). (n + (16 - last % 16)) % 16) (sym low)
    ∙ mod-add-mod number 16 (16 - last % 16)

-- bits that agree at each place make one number
pub gathered_same : (a b : ℕ → ℕ) (n : ℕ) → ((k : ℕ) → k < n → a k ≡ b k) → gathered a n ≡ gathered b n
unfolding gathered
gathered_same a b zero same = refl
gathered_same a b (suc n) same =
    ap₂ (λ (high low : ℕ). high * 2 + low) (gathered_same a b n (λ k h. same k (le_step h))) (same n (le_refl (suc n)))

place_le : (w : ℕ) (xs : List ℕ) → place_in w xs ≤ length xs
unfolding place_in
place_le w [] = omega arith
place_le w (x ∷ xs) = either (eqb x w) (place_le w xs)
  where
    either : (b : Bool) → place_in w xs ≤ length xs → cond b 0 (suc (place_in w xs)) ≤ suc (length xs)
    either true h = omega arith
    either false h = omega arith

-- what the promise of a search says is what is found, and nothing else is
pub finds : (word : ℕ) → Finds word (found_of word)
unfolding found_of refusal_of value_of
finds word = split (ltb (number_in word) 16) (λ t. record { refused = rw t; number = rw t }) (λ t. record { refused = rw t; number = rw t })

pub found_as : (word : ℕ) (found : Option ℕ) → Finds word found → found ≡ found_of word
unfolding found_of refusal_of value_of
found_as word (Some n) p =
    split (ltb (number_in word) 16)
    (λ t. let is : n ≡ number_in word = rw t at p.number in rw t (ap Some is))
    (λ t. absurd (let other : ◌≡◌ {A = ℕ} 0 8 = rw t at p.refused in omega (arith, other)))
found_as word None p =
    split (ltb (number_in word) 16)
    (λ t. absurd (let other : ◌≡◌ {A = ℕ} 8 0 = rw t at p.refused in omega (arith, other)))
    (λ t. rw t)

-- what is found is the number, and nothing is found where there is none
pub found_is : (word : ℕ) {n : ℕ} → found_of word ≡ Some n → n ≡ number_in word
unfolding found_of
found_is word {n} e =
    split (ltb (number_in word) 16)
    (λ t. let same : Some (number_in word) ≡ Some n = rw t at e in cc)
    (λ t. absurd (let other : None ≡ Some n = rw t at e in never other))
  where
    never : None ≡ Some n → ⊥
    never h = let z : ◌≡◌ {A = ℕ} 0 1 = cc in omega arith

-- a number's entry is found to be that number
pub entry_found : {number : ℕ} → number < 16 → found_of (entry_of number) ≡ Some number
entry_found {number} h = sym (found_number (entry_of number) (number_entry h) h)

-- what is found is refused 8 or not at all; where it isn't, its entry is the eight bits, and where it is, they are no entry
pub found_either : (word : ℕ) (P : Option ℕ → Type 0) → (number_in word < 16 → P (Some (number_in word))) → (number_in word ≡ 16 → P None) → P (found_of word)
unfolding found_of table_a1
found_either word P here there =
    split (ltb (number_in word) 16)
    (λ t. rw t (here (ltb-true (number_in word) 16 t)))
    (λ t. rw t (there (let above = ltb-false (number_in word) 16 t in let low = place_le word table_a1 in omega arith)))

pub value_lt : (word : ℕ) → value_of (found_of word) < 16
unfolding value_of
value_lt word = found_either word (λ f. value_of f < 16) (λ h. h) (λ e. omega arith)

pub no_entry_refused : (word : ℕ) → ((number : ℕ) → number < 16 → entry_of number ≡ word → ⊥) → refusal_of (found_of word) ≡ 8
unfolding refusal_of
no_entry_refused word never =
    found_either word (λ f. refusal_of f ≡ 8) (λ h. absurd (never (number_in word) h (entry_number_in word h))) (λ e. refl)

pub refused_8 : (word : ℕ) → (refusal_of (found_of word) ≡ 0 → ⊥) → refusal_of (found_of word) ≡ 8
unfolding refusal_of
refused_8 word =
    found_either word (λ f. (refusal_of f ≡ 0 → ⊥) → refusal_of f ≡ 8) (λ h some. absurd (some refl)) (λ none some. refl)
