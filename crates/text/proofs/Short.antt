-- How long words and numbers are at most, and that a run with room for all holds all.
-- Assumes nothing.
use mathlib.Core.Bool.{true}
use mathlib.Core.List.{List, [], ◌∷◌, ◌++◌}
use mathlib.Core.Path.{◌≡◌, ◌∙◌, ap}
use Prim.Native.Nat.{ℕ, zero, suc, ◌+◌, ◌/◌, ◌%◌, ◌≤◌}
use native.Mathlib.Omega.{arith}
use borrow.Author.Tests.{le-leb}
use lib.Dec.{ltb}
use lib.ListN.{length, take, length-append}
use Rattle.runs.proofs.Laws.{split}
use Rattle.text.specs.declared.Put.{Put}
use Rattle.text.specs.Put.{listed}
use Rattle.text.specs.Text.{digits_of, item}

pub take_to : (n : ℕ) (l : List ℕ) → length (take n l) ≤ n
take_to zero l = omega arith
take_to (suc n) [] = omega arith
take_to (suc n) (x ∷ l) = omega (arith, take_to n l)

length_digits : (k n : ℕ) → length (digits_of k n) ≤ k
unfolding digits_of
length_digits zero n = omega arith
length_digits (suc k) n =
    split (ltb n 10)
    (λ e. rw e (omega arith))
    (λ e. rw (e, length-append (digits_of k (n / 10)) ((48 + n % 10) ∷ [])) (omega (arith, length_digits k (n / 10))))

-- words and a number behind octets
with_item : (octets more : List ℕ) (n : ℕ) {a b : ℕ} → length octets ≤ a → length more ≤ b → length (octets ++ item more n) ≤ a + b + 20
with_item octets more n h l =
    rw (length-append octets (item more n), length-append more (digits_of 20 n)) (omega (arith, length_digits 20 n))

pub with_words : (octets more : List ℕ) {a b : ℕ} → length octets ≤ a → length more ≤ b → length (octets ++ more) ≤ a + b
with_words octets more h l = rw (length-append octets more) (omega arith)

pub one_item : (more : List ℕ) (n : ℕ) {b : ℕ} → length more ≤ b → length (item more n) ≤ b + 20
one_item more n l = rw (length-append more (digits_of 20 n)) (omega (arith, length_digits 20 n))

pub three_short : (first second third last : List ℕ) (a b c : ℕ) {i j k l : ℕ} → length first ≤ i → length second ≤ j → length third ≤ k
    → length last ≤ l → length (item first a ++ item second b ++ item third c ++ last) ≤ i + j + k + l + 60
three_short first second third last a b c hi hj hk hl =
    let one = one_item first a hi in
    let two = with_item (item first a) second b one hj in
    let three = with_item (item first a ++ item second b) third c two hk in
    omega (arith, with_words (item first a ++ item second b ++ item third c) last three hl)

pub two_short : (first second last : List ℕ) (a b : ℕ) {i j l : ℕ} → length first ≤ i → length second ≤ j → length last ≤ l
    → length (item first a ++ item second b ++ last) ≤ i + j + l + 40
two_short first second last a b hi hj hl =
    let one = one_item first a hi in
    let two = with_item (item first a) second b one hj in
    omega (arith, with_words (item first a ++ item second b) last two hl)

-- a run with room for so many octets holds all of a text that has no more
pub listed_whole : (text run : List ℕ) (most : ℕ) {answer : Put} → length text ≤ most → most ≤ length run → answer ≡ listed (length run) text
    → (answer.whole ≡ true) × (answer.octets ≤ length run)
listed_whole text run most fits room is = (
  ap (λ (x : Put). x.whole) is ∙ le-leb (length text) (length run) (omega arith),
  omega (arith, ap (λ (x : Put). x.octets) is, take_to (length run) text),
)
