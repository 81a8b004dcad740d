-- Laws of counts: sums of them, and counts that are too many.
-- Assumes nothing.
use mathlib.Core.Bool.{Bool, true, false, not}
use mathlib.Core.List.{List, [], ◌∷◌, ◌++◌}
use mathlib.Core.Path.{◌≡◌, refl, sym, ◌∙◌, ap}
use Prim.Native.Nat.{ℕ, ◌+◌, ◌*◌, ◌%◌, ◌≤◌, ◌<◌}
use native.Mathlib.Nat.{pos_of_ne-zero, div-lt_iff_lt-mul, le_of_suc-le-suc, mod-eq_of_lt}
use native.Mathlib.Numerals.{add-one}
use native.Mathlib.Omega.{arith}
use borrow.Author.Tests.{eq-eqb, ne_eqb, eqb-true, eqb-false, lt-ltb, le-ltb, ltb-true, ltb-false}
use lib.Dec.{eqb, ltb}
use lib.ListN.{length, get_or, take, drop, take-append-drop}
use lib.Seq.{take-suc, take_all}
use Rattle.runs.proofs.Laws.{split, neither}
use Rattle.reading.specs.Heard.{Heard}
use Rattle.reading.specs.Totals.{total_of}
use Rattle.reading.proofs.Totals.{total_joined, total_more}
use Rattle.figures.specs.declared.Counts.{Counts}
use Rattle.figures.specs.Code.{no_counts, one_of, Under, Small, cap_of, capped, held_row}
use Rattle.figures.specs.Figures.{counts_of, per_million, row_of, above, too_many_of, plus_of}
use Rattle.figures.specs.Sheets.{sum_of, unlike}

-- two counts that agree in each of the nine
pub same_counts : {a b : Counts} → a.sound ≡ b.sound → a.missing ≡ b.missing → a.refused_8 ≡ b.refused_8
    → a.refused_9 ≡ b.refused_9 → a.refused_15 ≡ b.refused_15 → a.refused_20 ≡ b.refused_20
    → a.marked_0 ≡ b.marked_0 → a.marked_1 ≡ b.marked_1 → a.marked_2 ≡ b.marked_2 → a ≡ b
same_counts s m r8 r9 r15 r20 m0 m1 m2 i =
    record {
      sound = s i;
      missing = m i;
      refused_8 = r8 i;
      refused_9 = r9 i;
      refused_15 = r15 i;
      refused_20 = r20 i;
      marked_0 = m0 i;
      marked_1 = m1 i;
      marked_2 = m2 i;
    }

-- counts as they begin
pub counts_begun : {c : Counts}
    → (c.sound ≡ 0) × ((c.missing ≡ 0) × ((c.refused_8 ≡ 0) × ((c.refused_9 ≡ 0) × ((c.refused_15 ≡ 0) × ((c.refused_20 ≡ 0)
    × ((c.marked_0 ≡ 0) × ((c.marked_1 ≡ 0) × (c.marked_2 ≡ 0)))))))) → c ≡ no_counts
counts_begun (s, (m, (r8, (r9, (r15, (r20, (m0, (m1, m2)))))))) = same_counts s m r8 r9 r15 r20 m0 m1 m2

-- of no records, of one before others, and of two lists
pub counts_none : counts_of [] ≡ no_counts
unfolding counts_of total_of
counts_none = refl

pub counts_front : (h : Heard) (heard : List Heard) → counts_of (h ∷ heard) ≡ plus_of (one_of h) (counts_of heard)
unfolding counts_of total_of
counts_front h heard = refl

pub counts_joined : (a b : List Heard) → counts_of (a ++ b) ≡ plus_of (counts_of a) (counts_of b)
unfolding counts_of
counts_joined a b =
    same_counts (total_joined _ a b) (total_joined _ a b) (total_joined _ a b) (total_joined _ a b) (total_joined _ a b)
    (total_joined _ a b)
    (total_joined _ a b) (total_joined _ a b) (total_joined _ a b)

-- sums
zero_plus : (n : ℕ) → 0 + n ≡ n
zero_plus n = omega arith

plus_zero : (n : ℕ) → n + 0 ≡ n
plus_zero n = omega arith

in_turn : (a b c : ℕ) → a + b + c ≡ a + (b + c)
in_turn a b c = omega arith

pub plus_none : (c : Counts) → plus_of no_counts c ≡ c
plus_none c =
    same_counts (zero_plus _) (zero_plus _) (zero_plus _) (zero_plus _) (zero_plus _) (zero_plus _) (zero_plus _) (zero_plus _)
    (zero_plus _)

pub none_more : (c : Counts) → plus_of c no_counts ≡ c
none_more c =
    same_counts (plus_zero _) (plus_zero _) (plus_zero _) (plus_zero _) (plus_zero _) (plus_zero _) (plus_zero _) (plus_zero _)
    (plus_zero _)

pub plus_in_turn : (a b c : Counts) → plus_of (plus_of a b) c ≡ plus_of a (plus_of b c)
plus_in_turn a b c =
    same_counts (in_turn a.sound _ _) (in_turn a.missing _ _) (in_turn a.refused_8 _ _) (in_turn a.refused_9 _ _)
    (in_turn a.refused_15 _ _) (in_turn a.refused_20 _ _) (in_turn a.marked_0 _ _) (in_turn a.marked_1 _ _)
    (in_turn a.marked_2 _ _)

-- none of the nine is above: each of them, and back
module _ (c : Counts) where
  pub few : too_many_of c ≡ false → Small c
  unfolding too_many_of
  few e =
      let a = neither (above c.sound) _ e in
      let b = neither (above c.missing) _ a.1 in
      let d = neither (above c.refused_8) _ b.1 in
      let f = neither (above c.refused_9) _ d.1 in
      let g = neither (above c.refused_15) _ f.1 in
      let h = neither (above c.refused_20) _ g.1 in
      let j = neither (above c.marked_0) _ h.1 in
      let k = neither (above c.marked_1) _ j.1 in
      record {
        sound = ltb-false 4294967295 _ a.0;
        missing = ltb-false 4294967295 _ b.0;
        refused8 = ltb-false 4294967295 _ d.0;
        refused9 = ltb-false 4294967295 _ f.0;
        refused15 = ltb-false 4294967295 _ g.0;
        refused20 = ltb-false 4294967295 _ h.0;
        marked0 = ltb-false 4294967295 _ j.0;
        marked1 = ltb-false 4294967295 _ k.0;
        marked2 = ltb-false 4294967295 _ k.1;
      }

  pub few_back : Small c → too_many_of c ≡ false
  unfolding too_many_of
  few_back s =
      rw (
        le-ltb 4294967295 _ s.sound,
        le-ltb 4294967295 _ s.missing,
        le-ltb 4294967295 _ s.refused8,
        le-ltb 4294967295 _ s.refused9,
        le-ltb 4294967295 _ s.refused15,
        le-ltb 4294967295 _ s.refused20,
        le-ltb 4294967295 _ s.marked0,
        le-ltb 4294967295 _ s.marked1,
        le-ltb 4294967295 _ s.marked2,
      )

-- a part of a sum is under what the sum is under
pub under_first : {most : ℕ} (a b : Counts) → Under most (plus_of a b) → Under most a
under_first a b s =
    record {
      sound = omega (arith, s.sound);
      missing = omega (arith, s.missing);
      refused8 = omega (arith, s.refused8);
      refused9 = omega (arith, s.refused9);
      refused15 = omega (arith, s.refused15);
      refused20 = omega (arith, s.refused20);
      marked0 = omega (arith, s.marked0);
      marked1 = omega (arith, s.marked1);
      marked2 = omega (arith, s.marked2);
    }

either_way : (a b : ℕ) → a + b ≡ b + a
either_way a b = omega arith

pub plus_either_way : (a b : Counts) → plus_of a b ≡ plus_of b a
plus_either_way a b =
    same_counts (either_way a.sound _) (either_way a.missing _) (either_way a.refused_8 _)
    (either_way a.refused_9 _)
    (either_way a.refused_15 _) (either_way a.refused_20 _) (either_way a.marked_0 _)
    (either_way a.marked_1 _)
    (either_way a.marked_2 _)

pub few_first : (a b : Counts) → too_many_of (plus_of a b) ≡ false → too_many_of a ≡ false
few_first a b e = few_back a (under_first a b (few (plus_of a b) e))

pub few_second : (a b : Counts) → too_many_of (plus_of a b) ≡ false → too_many_of b ≡ false
few_second a b e = few_first b a (ap too_many_of (plus_either_way b a) ∙ e)

-- lengths up to a place, and the rest
pub sum_split : (lengths : List ℕ) (i : ℕ) → sum_of (take i lengths) + sum_of (drop i lengths) ≡ sum_of lengths
sum_split lengths i =
    sym (total_joined (λ n. n) (take i lengths) (drop i lengths)) ∙ ap (λ (l : List ℕ). sum_of l) (take-append-drop i lengths)

pub sum_next : (lengths : List ℕ) (i : ℕ) → i < length lengths
    → sum_of (take (i + 1) lengths) ≡ sum_of (take i lengths) + get_or lengths i 0
sum_next lengths i within =
    ap (λ (n : ℕ). sum_of (take n lengths)) (add-one i)
    ∙ ap (λ (l : List ℕ). sum_of l) (take-suc lengths i 0 within)
    ∙ total_more (λ n. n) (take i lengths) (get_or lengths i 0)

pub sum_above : (lengths : List ℕ) (i : ℕ) {left octets : ℕ} → i < length lengths → sum_of (take i lengths) + left ≡ octets
    → left < get_or lengths i 0 → false ≡ eqb (sum_of lengths) octets
sum_above lengths i {left} {octets} within so_far more =
    sym (ne_eqb (sum_of lengths) octets
    (λ e. absurd (omega (arith, e, so_far, more, sum_next lengths i within, sum_split lengths (i + 1)))))

pub sum_all : (lengths : List ℕ) (i left : ℕ) {octets : ℕ} → length lengths ≤ i → sum_of (take i lengths) + left ≡ octets
    → eqb left 0 ≡ eqb (sum_of lengths) octets
sum_all lengths i left {octets} all so_far =
    let sum : sum_of lengths + left ≡ octets = ap (λ (l : List ℕ). sum_of l + left) (sym (take_all i lengths all)) ∙ so_far in
    split (eqb left 0)
    (λ e. e ∙ sym (eq-eqb (sum_of lengths) octets (omega (arith, sum, eqb-true left 0 e))))
    (λ e. e ∙ sym (ne_eqb (sum_of lengths) octets (λ same. eqb-false left 0 e (omega (arith, sum, same)))))

-- a count that stops at the first number that is too many
pub cap_more : (a b : ℕ) → cap_of (cap_of a + b) ≡ cap_of (a + b)
unfolding cap_of
cap_more a b =
    split (ltb 4294967296 a)
    (λ t.
    let many : 4294967296 < a = ltb-true 4294967296 a t in
    rw (t, lt-ltb 4294967296 (a + b) (omega arith))
    (split (ltb 4294967296 (4294967296 + b))
    (λ u. rw u)
    (λ u. rw u (omega (arith, ltb-false 4294967296 (4294967296 + b) u)))))
    (λ t. rw t refl)

pub cap_to : (n : ℕ) → cap_of n ≤ 4294967296
unfolding cap_of
cap_to n =
    split (ltb 4294967296 n)
    (λ t. rw t (omega arith))
    (λ t. rw t (ltb-false 4294967296 n t))

cap_same : (n : ℕ) → n ≤ 4294967296 → cap_of n ≡ n
unfolding cap_of
cap_same n few = rw (le-ltb 4294967296 n few)

cap_above : (n : ℕ) → above (cap_of n) ≡ above n
unfolding cap_of
cap_above n =
    split (ltb 4294967296 n)
    (λ t. let many : 4294967296 < n = ltb-true 4294967296 n t in rw (t, lt-ltb 4294967295 n (omega arith)) refl)
    (λ t. rw t refl)

pub capped_more : (a b : Counts) → capped (plus_of (capped a) b) ≡ capped (plus_of a b)
unfolding capped
capped_more a b =
    same_counts (cap_more a.sound _) (cap_more a.missing _) (cap_more a.refused_8 _) (cap_more a.refused_9 _)
    (cap_more a.refused_15 _) (cap_more a.refused_20 _) (cap_more a.marked_0 _) (cap_more a.marked_1 _)
    (cap_more a.marked_2 _)

-- of two sums that stopped
pub capped_both : (a b : Counts) → capped (plus_of (capped a) (capped b)) ≡ capped (plus_of a b)
capped_both a b =
    capped_more a (capped b)
    ∙ ap capped (plus_either_way a (capped b))
    ∙ capped_more b a
    ∙ ap capped (plus_either_way b a)

pub capped_none : capped no_counts ≡ no_counts
unfolding capped cap_of
capped_none = refl

pub capped_many : (c : Counts) → too_many_of (capped c) ≡ too_many_of c
unfolding capped too_many_of
capped_many c =
    rw (
      cap_above c.sound,
      cap_above c.missing,
      cap_above c.refused_8,
      cap_above c.refused_9,
      cap_above c.refused_15,
      cap_above c.refused_20,
      cap_above c.marked_0,
      cap_above c.marked_1,
      cap_above c.marked_2,
    )

pub capped_small : (c : Counts) → Small c → capped c ≡ c
unfolding capped
capped_small c s =
    same_counts (cap_same _ (omega (arith, s.sound))) (cap_same _ (omega (arith, s.missing)))
    (cap_same _ (omega (arith, s.refused8)))
    (cap_same _ (omega (arith, s.refused9))) (cap_same _ (omega (arith, s.refused15)))
    (cap_same _ (omega (arith, s.refused20)))
    (cap_same _ (omega (arith, s.marked0))) (cap_same _ (omega (arith, s.marked1))) (cap_same _ (omega (arith, s.marked2)))

-- what a row needs of the counts
pub capped_row : {c : Counts} (d : Counts) → c ≡ capped d → (c.sound ≤ 4294967296) × (c.missing ≤ 4294967296)
unfolding capped
capped_row d is = rw is (cap_to d.sound, cap_to d.missing)

-- a row in 32 bits is the row, where none of the nine is too many
pub length_row : (c : Counts) → length (held_row c) ≡ 10
unfolding held_row row_of
length_row c = refl

low : (n : ℕ) → n ≤ 4294967295 → n % 4294967296 ≡ n
low n few = mod-eq_of_lt (omega arith)

million_to : (sound missing : ℕ) → per_million sound missing ≤ 1000000
unfolding per_million
million_to sound missing =
    split (eqb (sound + missing) 0)
    (λ t. rw t (omega arith))
    (λ t.
    let pos : 0 < sound + missing = pos_of_ne-zero (eqb-false (sound + missing) 0 t) in
    let below : missing * 1000000 < 1000001 * (sound + missing) = omega (arith, pos) in
    rw t (le_of_suc-le-suc ((div-lt_iff_lt-mul pos).1 below)))

pub row_small : (c : Counts) → Small c → held_row c ≡ row_of c
unfolding held_row row_of
row_small c s =
    rw (
      low c.sound s.sound,
      low c.missing s.missing,
      low c.refused_8 s.refused8,
      low c.refused_9 s.refused9,
      low c.refused_15 s.refused15,
      low c.refused_20 s.refused20,
      low c.marked_0 s.marked0,
      low c.marked_1 s.marked1,
      low c.marked_2 s.marked2,
      low (per_million c.sound c.missing) (omega (arith, million_to c.sound c.missing)),
    )

-- the totals of counts that aren't too many
pub total_row : {counts : Counts} (all : Counts) → counts ≡ capped all → false ≡ too_many_of counts → held_row counts ≡ row_of all
total_row {counts} all is few-of =
    let low-all : too_many_of all ≡ false = sym (capped_many all) ∙ ap too_many_of (sym is) ∙ sym few-of in
    let same : counts ≡ all = is ∙ capped_small all (few all low-all) in
    ap held_row same ∙ row_small all (few all low-all)

-- 5, by its two parts
module _ (octets : ℕ) (lengths : List ℕ) (numbers : ℕ) where
  pub differs : {same : Bool} → same ≡ eqb (sum_of lengths) octets → not same ≡ true → true ≡ unlike octets lengths numbers
  unfolding unlike
  differs e t = sym (rw (← e, t) refl)

  pub agrees : {same : Bool} → same ≡ eqb (sum_of lengths) octets → not same ≡ false
      → not (eqb numbers (10 * length lengths)) ≡ unlike octets lengths numbers
  unfolding unlike
  agrees e t = sym (rw (← e, t) refl)
