-- Laws of an input that begins with a length or with a part of one, over plain values.
-- Assumes nothing.
use Rattle.std.proofs.Common.{◌≡◌, ℕ, zero, suc, ◌+◌, ◌-◌, ◌*◌, ◌<◌, ◌≤◌, Bool, true, false, cond, ◌&&◌, eqb, ltb, leb, List, [], ◌∷◌, ◌++◌, length, take, drop, sym, refl, ap, ◌∙◌, true≢false, append_assoc, append-nil, arith, length-append, le-ltb, lt-ltb, ne_eqb, le-leb, leb-false, leb-true}
use borrow.Author.Tests.{lt-leb}
use lib.Seq.{take-append-le, drop-append-le, take-append-add, drop-append-add}
use Rattle.runs.proofs.Laws.{split, both_true}
use Rattle.table.specs.Logs.{
  is_digit,
  are_digits,
  number_on,
  line_in,
  length_in,
  begins_with_length,
  begins_with_log,
  Logs,
  no_logs,
  with_log,
  logs_to,
}
use Rattle.table.specs.Taking.{goes_on_of}

-- digits and what stands behind them
pub digits_more : (ds os : List ℕ) → are_digits ds ≡ true → are_digits (ds ++ os) ≡ are_digits os
unfolding are_digits
digits_more [] os are = refl
digits_more (d ∷ ds) os are =
    let both = both_true (is_digit d) (are_digits ds) are in
    rw both.0 (digits_more ds os both.1)

pub number_more : (n : ℕ) (ds os : List ℕ) → number_on n (ds ++ os) ≡ number_on (number_on n ds) os
unfolding number_on
number_more n [] os = refl
number_more n (d ∷ ds) os = number_more (10 * n + (d - 48)) ds os

number_grows : (n : ℕ) (ds : List ℕ) → n ≤ number_on n ds
unfolding number_on
number_grows n [] = omega arith
number_grows n (d ∷ ds) = omega (arith, number_grows (10 * n + (d - 48)) ds)

line_more : (ds os : List ℕ) → are_digits ds ≡ true → line_in (ds ++ os) ≡ ds ++ line_in os
unfolding are_digits line_in
line_more [] os are = refl
line_more (d ∷ ds) os are =
    let both = both_true (is_digit d) (are_digits ds) are in
    let from : 48 ≤ d = leb-true 48 d (both_true (leb 48 d) (leb d 57) both.0).0 in
    rw (ne_eqb d 10 (λ e. omega (arith, e, from))) (ap (λ (l : List ℕ). d ∷ l) (line_more ds os both.1))

-- within a log: what is read of it, how many octets are left, and what comes
unfoldable pub rest_of : ℕ → List ℕ → ℕ → List ℕ → Logs
rest_of most part left rest =
    cond (leb left (length rest)) (with_log (part ++ take left rest) (logs_to most (drop left rest))) (no_logs 5)

-- no log in what comes
pub none_left : (most : ℕ) → logs_to most [] ≡ no_logs 0
unfolding logs_to
none_left zero = refl
none_left (suc most) = refl

some_input : (ds : List ℕ) (o : ℕ) (os : List ℕ) → eqb (length (ds ++ (o ∷ os))) 0 ≡ false
some_input ds o os = ne_eqb (length (ds ++ (o ∷ os))) 0 (λ e. omega (arith, e, length-append ds (o ∷ os)))

pub behind_the_last : (ds : List ℕ) (o : ℕ) (os : List ℕ) → logs_to 0 (ds ++ (o ∷ os)) ≡ no_logs 18
unfolding logs_to
behind_the_last ds o os = rw (some_input ds o os)

no_length : (most : ℕ) (input : List ℕ) → eqb (length input) 0 ≡ false → begins_with_length input ≡ false
    → logs_to (suc most) input ≡ no_logs 5
unfolding logs_to begins_with_log
no_length most input some none = rw (some, none)

length_facts : (input : List ℕ) → begins_with_length input ≡ true
    → (length (line_in input) ≤ 10) × (are_digits (line_in input) ≡ true) × (length_in input ≤ 4294967295)
unfolding begins_with_length
length_facts input t =
    let low : Bool = leb (length_in input) 4294967295 in
    let digits : Bool = are_digits (line_in input) && low in
    let few : Bool = leb (length (line_in input)) 10 in
    let some = both_true (ltb (length (line_in input)) (length input)) (leb 1 (length (line_in input)) && (few && digits)) t in
    let short = both_true few digits (both_true (leb 1 (length (line_in input))) (few && digits) some.1).1 in
    let last = both_true (are_digits (line_in input)) low short.1 in
    (leb-true (length (line_in input)) 10 short.0, last.0, leb-true (length_in input) 4294967295 last.1)

module _ (most : ℕ) (ds : List ℕ) (are : are_digits ds ≡ true) where
  -- an input that ends within a length
  pub ends_in_length : (length ds ≡ 0 → ⊥) → logs_to (suc most) ds ≡ no_logs 5
  unfolding begins_with_length line_in
  ends_in_length some =
      let all : line_in ds ≡ ds = ap line_in (sym (append-nil ds)) ∙ line_more ds [] are ∙ append-nil ds in
      no_length most ds (ne_eqb (length ds) 0 some) (rw (all, le-ltb (length ds) (length ds) (omega arith)))

  -- a newline that no digit stands before
  pub newline_alone : (os : List ℕ) → length ds ≡ 0 → logs_to (suc most) (ds ++ (10 ∷ os)) ≡ no_logs 5
  unfolding begins_with_length line_in
  newline_alone os none =
      let line : line_in (ds ++ (10 ∷ os)) ≡ ds = line_more ds (10 ∷ os) are ∙ append-nil ds in
      no_length most (ds ++ (10 ∷ os)) (some_input ds 10 os)
      (rw (line, none, lt-ltb 0 (length (ds ++ (10 ∷ os))) (omega (arith, length-append ds (10 ∷ os)))))

  -- an octet that isn't the next digit: whatever comes behind it, the line is no length
  next_digit : (o : ℕ) (os : List ℕ) → (o ≡ 10 → ⊥) → begins_with_length (ds ++ (o ∷ os)) ≡ true
      → goes_on_of (length ds) (number_on 0 ds) o ≡ true
  unfolding are_digits number_on line_in goes_on_of
  next_digit o os more t =
      let line : List ℕ = ds ++ (o ∷ line_in os) in
      let is : line_in (ds ++ (o ∷ os)) ≡ line = line_more ds (o ∷ os) are ∙ rw (ne_eqb o 10 more) in
      let facts = rw is at (length_facts (ds ++ (o ∷ os)) t) in
      let digits = both_true (is_digit o) (are_digits (line_in os)) (sym (digits_more ds (o ∷ line_in os) are) ∙ facts.1) in
      let digit = both_true (leb 48 o) (leb o 57) digits.0 in
      let short : length ds ≤ 9 = omega (arith, facts.0, length-append ds (o ∷ line_in os)) in
      let next : ℕ = 10 * number_on 0 ds + (o - 48) in
      let low : next ≤ 4294967295 =
      omega (arith, facts.2, number_more 0 ds (o ∷ line_in os), number_grows next (line_in os)) in
      rw (digit.0, digit.1, le-leb (length ds) 9 short, le-leb next 4294967295 low)

  pub no_digit : (o : ℕ) (os : List ℕ) → (o ≡ 10 → ⊥) → goes_on_of (length ds) (number_on 0 ds) o ≡ false
      → logs_to (suc most) (ds ++ (o ∷ os)) ≡ no_logs 5
  no_digit o os more odd =
      split (begins_with_length (ds ++ (o ∷ os)))
      (λ t. absurd (true≢false (sym (next_digit o os more t) ∙ odd)))
      (λ t. no_length most (ds ++ (o ∷ os)) (some_input ds o os) t)

  -- a newline behind digits: that many octets are the log
  pub newline : (os : List ℕ) → (length ds ≡ 0 → ⊥) → length ds ≤ 10 → number_on 0 ds ≤ 4294967295
      → logs_to (suc most) (ds ++ (10 ∷ os)) ≡ rest_of most [] (number_on 0 ds) os
  unfolding logs_to begins_with_log begins_with_length line_in rest_of
  newline os some few fits =
      let input : List ℕ = ds ++ (10 ∷ os) in
      let line : line_in input ≡ ds = line_more ds (10 ∷ os) are ∙ append-nil ds in
      let behind : drop (length ds + 1) input ≡ os = drop-append-add ds (10 ∷ os) 1 in
      rw (
        some_input ds 10 os,
        line,
        lt-ltb (length ds) (length input) (omega (arith, length-append ds (10 ∷ os))),
        le-leb 1 (length ds) (omega (arith, some)),
        le-leb (length ds) 10 few,
        are,
        le-leb (number_on 0 ds) 4294967295 fits,
        behind,
      )

pub goes_facts : (digits number octet : ℕ) → goes_on_of digits number octet ≡ true
    → (is_digit octet ≡ true) × (48 ≤ octet) × (digits ≤ 9) × (10 * number + (octet - 48) ≤ 4294967295)
unfolding goes_on_of
goes_facts digits number octet on =
    let fits : Bool = leb (10 * number + (octet - 48)) 4294967295 in
    let from = both_true (leb 48 octet) (leb octet 57 && (leb digits 9 && fits)) on in
    let to = both_true (leb octet 57) (leb digits 9 && fits) from.1 in
    let few = both_true (leb digits 9) fits to.1 in
    (rw (from.0, to.0), leb-true 48 octet from.0, leb-true digits 9 few.0, leb-true _ 4294967295 few.1)

-- within a log: it ends in what is ahead, or goes on behind it
module _ (most : ℕ) (part : List ℕ) (left : ℕ) (ahead later : List ℕ) where
  pub rest_whole : left ≤ length ahead
      → rest_of most part left (ahead ++ later) ≡ with_log (part ++ take left ahead) (logs_to most (drop left ahead ++ later))
  unfolding rest_of
  rest_whole within =
      rw (
        le-leb left (length (ahead ++ later)) (omega (arith, length-append ahead later)),
        take-append-le left ahead later within,
        drop-append-le left ahead later within,
      )

  pub rest_part : length ahead ≤ left
      → rest_of most part left (ahead ++ later) ≡ rest_of most (part ++ ahead) (left - length ahead) later
  unfolding rest_of
  rest_part beyond =
      let all : left ≡ length ahead + (left - length ahead) = omega arith in
      let both = length-append ahead later in
      let test : leb left (length (ahead ++ later)) ≡ leb (left - length ahead) (length later) =
      split (leb (left - length ahead) (length later))
      (λ t.
      let fits : left - length ahead ≤ length later = leb-true (left - length ahead) (length later) t in
      le-leb left (length (ahead ++ later)) (omega (arith, fits, both)) ∙ sym t)
      (λ t.
      let cut : length later < left - length ahead = leb-false (left - length ahead) (length later) t in
      lt-leb left (length (ahead ++ later)) (omega (arith, cut, both)) ∙ sym t) in
      let taken : part ++ take left (ahead ++ later) ≡ (part ++ ahead) ++ take (left - length ahead) later =
      ap (λ (n : ℕ). part ++ take n (ahead ++ later)) all
      ∙ ap (λ (l : List ℕ). part ++ l) (take-append-add ahead later (left - length ahead))
      ∙ sym (append_assoc part ahead (take (left - length ahead) later)) in
      let behind : drop left (ahead ++ later) ≡ drop (left - length ahead) later =
      ap (λ (n : ℕ). drop n (ahead ++ later)) all ∙ drop-append-add ahead later (left - length ahead) in
      rw (test, taken, behind)

-- an input that ends within a log
pub ends_in_log : (most : ℕ) (part : List ℕ) (left : ℕ) → (left ≡ 0 → ⊥) → rest_of most part left [] ≡ no_logs 5
unfolding rest_of
ends_in_log most part left some = rw (lt-leb left 0 (omega (arith, some)))
