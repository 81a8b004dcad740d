-- Laws of runs taken part by part: a part of what is below a bound, and a record written behind others.
-- Assumes nothing.
use Rattle.std.proofs.Common.{◌≡◌, ℕ, zero, suc, ◌+◌, ◌-◌, ◌^◌, ◌≤◌, true, false, not, ltb, List, [], ◌∷◌, ◌++◌, length, take, drop, set, sym, refl, ap, ◌∙◌, subst, ap₂, append_assoc, append-nil, arith, length-append, length-drop, length-set, take-append-drop, length-take-le, drop-drop, take_at}
use borrow.Author.Tests.{not-false}
use borrow.Rule.Slice.PartMut.{mid_of, put_mid, same_len_mid}
use lib.Seq.{drop-append-add}
use Rattle.runs.specs.Runs.{written}
use Rattle.runs.proofs.Filling.{stored_behind}
use Rattle.runs.proofs.Laws.{neither, both_true}
use Rattle.formats.specs.declared.Format.{Format}
use Rattle.sender.specs.Packing.{values_refused_by}
use Rattle.sender.specs.Sender.{all_below}

-- fewer of what is below a bound
below_fewer : (bound k m : ℕ) (run : List ℕ) → k ≤ m → all_below bound (take m run) ≡ true → all_below bound (take k run) ≡ true
unfolding all_below
below_fewer bound zero m run h e = refl
below_fewer bound (suc k) zero run h e = absurd (omega (arith, h))
below_fewer bound (suc k) (suc m) [] h e = refl
below_fewer bound (suc k) (suc m) (x ∷ xs) h e =
    let both = both_true (ltb x bound) (all_below bound (take m xs)) e in
    rw both.0 (below_fewer bound k m xs (omega (arith, h)) both.1)

-- and what stands behind some of it
below_behind : (bound at k : ℕ) (run : List ℕ) → all_below bound (take (at + k) run) ≡ true → all_below bound (take k (drop at run)) ≡ true
unfolding all_below
below_behind bound zero k run e =
    let same : zero + k ≡ k = omega arith in subst (λ (n : ℕ). all_below bound (take n run) ≡ true) same e
below_behind bound (suc at) zero [] e = refl
below_behind bound (suc at) (suc k) [] e = refl
below_behind bound (suc at) k (x ∷ xs) e =
    let same : suc at + k ≡ suc (at + k) = omega arith in
    let here : all_below bound (take (suc (at + k)) (x ∷ xs)) ≡ true = subst (λ (n : ℕ). all_below bound (take n (x ∷ xs)) ≡ true) same e in
    below_behind bound at k xs (both_true (ltb x bound) (all_below bound (take (at + k) xs)) here).1

-- where no number of so many entries is too large, none is in a part of them
pub part_sound : (f : Format) (samples ancillary : List ℕ) (most at used : ℕ) → at + used ≤ most
    → values_refused_by f (take most samples) (take most ancillary) ≡ false
    → values_refused_by f (take used (drop at samples)) (take used (drop at ancillary)) ≡ false
unfolding values_refused_by
part_sound f samples ancillary most at used h e =
    let both = neither (not (all_below (2 ^ f.sample_bits) (take most samples))) _ e in
    let first = below_behind (2 ^ f.sample_bits) at used samples
    (below_fewer (2 ^ f.sample_bits) (at + used) most samples h (not-false _ both.0)) in
    let second = below_behind (2 ^ f.ancillary_bits) at used ancillary
    (below_fewer (2 ^ f.ancillary_bits) (at + used) most ancillary h (not-false _ both.1)) in
    rw (first, second)

module _ (run : List ℕ) where
  pub written_none : (at : ℕ) → written run at [] ≡ run
  written_none at =
      let none : at + length {A = ℕ} [] ≡ at = omega arith in
      ap (λ (l : List ℕ). l ++ drop (at + length {A = ℕ} []) run) (append-nil (take at run))
      ∙ ap (λ (n : ℕ). take at run ++ drop n run) none
      ∙ take-append-drop at run

  module _ (at : ℕ) (a b : List ℕ) (inside : at ≤ length run) where
    abbrev before : List ℕ
    before = take at run ++ a

    abbrev behind : List ℕ
    behind = drop (at + length a) run

    front : length before ≡ at + length a
    front = length-append (take at run) a ∙ ap (λ (n : ℕ). n + length a) (length-take-le at run inside)

    past : drop (at + length a + length b) (before ++ behind) ≡ drop (at + length (a ++ b)) run
    past =
        let sum : at + length a + length b ≡ at + length (a ++ b) = omega (arith, length-append a b) in
        ap (λ (n : ℕ). drop (n + length b) (before ++ behind)) (sym front)
        ∙ drop-append-add before behind (length b)
        ∙ drop-drop (length b) (at + length a) run
        ∙ ap (λ (n : ℕ). drop n run) sum

    -- entries behind those that were written before
    pub written_on : written (written run at a) (at + length a) b ≡ written run at (a ++ b)
    written_on =
        ap₂ (λ (x y : List ℕ). x ++ b ++ y) (take_at before behind (at + length a) front) past
        ∙ ap (λ (l : List ℕ). l ++ drop (at + length (a ++ b)) run) (append_assoc (take at run) a b)

-- an octet stored, and a part behind it that was lent on, are written together
pub lent_behind : (octet : ℕ) (cell run : List ℕ) (at size : ℕ) → size ≡ length cell → at + 1 + length cell ≤ length run
    → put_mid (at + 1) size (set run at octet) cell ≡ written run at (octet ∷ cell)
lent_behind octet cell run at size same room =
    ap (λ (n : ℕ). take (at + 1) (set run at octet) ++ (cell ++ drop n (drop (at + 1) (set run at octet)))) same
    ∙ ap (λ (l : List ℕ). take (at + 1) (set run at octet) ++ (cell ++ l)) (drop-drop (length cell) (at + 1) (set run at octet))
    ∙ sym (append_assoc (take (at + 1) (set run at octet)) cell (drop (at + 1 + length cell) (set run at octet)))
    ∙ stored_behind octet cell run at (omega arith)

-- the part from a place on that is so long
pub part_is : (run : List ℕ) (at : ℕ) {n m : ℕ} → n ≡ m → take (at + n - at) (drop at run) ≡ take m (drop at run)
part_is run at {n} {m} e = let same : at + n - at ≡ m = omega (arith, e) in ap (λ (k : ℕ). take k (drop at run)) same

-- the part of a log that a cell is written into
module _ (run : List ℕ) (to octet : ℕ) (room : to + 49 ≤ length run) where
  pub cell_size : to + 49 - (to + 1) ≡ 48
  cell_size = omega arith

  pub cell_part : length (mid_of (to + 1) (to + 49 - (to + 1)) (set run to octet)) ≡ 48
  cell_part =
      let long : length (set run to octet) ≡ length run = length-set run to octet in
      length-take-le (to + 49 - (to + 1)) (drop (to + 1) (set run to octet))
      (omega (arith, room, length-drop (to + 1) (set run to octet), long))
      ∙ cell_size

  pub log_kept : (cell : List ℕ) → length cell ≡ length (mid_of (to + 1) (to + 49 - (to + 1)) (set run to octet))
      → length (put_mid (to + 1) (to + 49 - (to + 1)) (set run to octet) cell) ≡ length run
  log_kept cell e = same_len_mid (to + 1) (to + 49 - (to + 1)) (set run to octet) cell e ∙ length-set run to octet
