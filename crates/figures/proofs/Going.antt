-- Laws of the loop over the logs: the totals so far and those of the logs from here are all, and so are the rows.
-- Assumes nothing.
use mathlib.Core.Bool.{false}
use mathlib.Core.List.{List, [], ◌∷◌, ◌++◌, append_assoc, append-nil}
use mathlib.Core.Path.{◌≡◌, refl, sym, ◌∙◌, ap, ap₂}
use Prim.Native.Nat.{ℕ, ◌+◌, ◌*◌, ◌-◌, ◌≤◌, ◌<◌}
use native.Mathlib.Numerals.{add-one}
use native.Mathlib.Omega.{arith}
use lib.ListN.{length, get_or, take, drop, length-append, drop_of_length-le}
use lib.Seq.{drop-cons, drop-drop, take_at, drop-append-add}
use Rattle.runs.specs.Runs.{over, written}
use Rattle.reading.specs.Totals.{total_of}
use Rattle.figures.specs.declared.Counts.{Counts}
use Rattle.figures.specs.Code.{no_counts, capped, held_row, held_rows, Fills}
use Rattle.figures.specs.Figures.{counts_of, too_many_of, plus_of}
use Rattle.figures.specs.Sheets.{logs_of, heard_in, heard_over, totals_of, rows_of, sum_of}
use Rattle.figures.proofs.Laws.{
  counts_none,
  counts_joined,
  plus_none,
  none_more,
  plus_in_turn,
  few,
  few_first,
  few_second,
  capped_both,
  capped_none,
  capped_small,
  row_small,
  length_row,
}

-- the logs from a place on
abbrev pub logs_at : List ℕ → List ℕ → ℕ → ℕ → List (List ℕ)
logs_at octets lengths at i = logs_of (drop at octets) (drop i lengths)

module _ (octets lengths : List ℕ) (at i : ℕ) (within : i < length lengths) where
  abbrev n : ℕ
  n = get_or lengths i 0

  abbrev log : List ℕ
  log = take n (drop at octets)

  lengths_front : drop i lengths ≡ n ∷ drop (i + 1) lengths
  lengths_front = drop-cons lengths i 0 within ∙ ap (λ (k : ℕ). n ∷ drop k lengths) (sym (add-one i))

  pub sum_front : sum_of (drop i lengths) ≡ n + sum_of (drop (i + 1) lengths)
  unfolding total_of
  sum_front = ap (λ (l : List ℕ). sum_of l) lengths_front

  logs_front : logs_at octets lengths at i ≡ log ∷ logs_at octets lengths (at + n) (i + 1)
  unfolding logs_of
  logs_front =
      ap (logs_of (drop at octets)) lengths_front
      ∙ ap (λ (o : List ℕ). log ∷ logs_of o (drop (i + 1) lengths)) (drop-drop n at octets)

  totals_front : totals_of (logs_at octets lengths at i)
      ≡ plus_of (counts_of (heard_in log)) (totals_of (logs_at octets lengths (at + n) (i + 1)))
  unfolding heard_over
  totals_front = ap (λ (ls : List (List ℕ)). totals_of ls) logs_front ∙ counts_joined _ _

  rows_front : held_rows (logs_at octets lengths at i)
      ≡ held_row (capped (counts_of (heard_in log))) ++ held_rows (logs_at octets lengths (at + n) (i + 1))
  unfolding held_rows
  rows_front = ap held_rows logs_front

-- no logs are left
module _ (octets lengths : List ℕ) (at i : ℕ) (all : length lengths ≤ i) where
  none_left : logs_at octets lengths at i ≡ []
  unfolding logs_of
  none_left = ap (logs_of (drop at octets)) (drop_of_length-le lengths all)

  totals_none : totals_of (logs_at octets lengths at i) ≡ no_counts
  unfolding heard_over
  totals_none = ap (λ (ls : List (List ℕ)). totals_of ls) none_left ∙ counts_none

  rows_none : held_rows (logs_at octets lengths at i) ≡ []
  unfolding held_rows
  rows_none = ap held_rows none_left

-- rows written behind those that a run holds
module _ (run a b : List ℕ) where
  past : drop (length a + length b) (a ++ drop (length a) run) ≡ drop (length (a ++ b)) run
  past =
      drop-append-add a (drop (length a) run) (length b)
      ∙ drop-drop (length b) (length a) run
      ∙ ap (λ (k : ℕ). drop k run) (sym (length-append a b))

  pub over_on : written (over a run) (length a) b ≡ over (a ++ b) run
  unfolding over
  over_on =
      ap₂ (λ (x y : List ℕ). x ++ b ++ y) (take_at a (drop (length a) run) (length a) refl) past

-- along the logs
pub record Filling (octets lengths rows₀ : List ℕ) (totals : Counts) (rows : List ℕ) (at i : ℕ) : Type 0 where
  pub before : Counts
  pub filled : List ℕ
  pub within : i ≤ length lengths
  pub place : at + sum_of (drop i lengths) ≡ length octets
  pub totals_are : totals ≡ capped before
  pub totals_still : plus_of before (totals_of (logs_at octets lengths at i)) ≡ totals_of (logs_of octets lengths)
  pub rows_are : rows ≡ over filled rows₀
  pub rows_long : length filled ≡ 10 * i
  pub rows_still : filled ++ held_rows (logs_at octets lengths at i) ≡ held_rows (logs_of octets lengths)
  pub same : length rows ≡ length rows₀

pub filling_start : {octets lengths rows : List ℕ} {totals : Counts} → sum_of lengths ≡ length octets → totals ≡ no_counts
    → Filling octets lengths rows totals rows 0 0
unfolding over
filling_start {octets} {lengths} sum none =
    record {
      before = no_counts;
      filled = [];
      within = omega arith;
      place = omega (arith, sum);
      totals_are = none ∙ sym capped_none;
      totals_still = plus_none _;
      rows_are = refl;
      rows_long = refl;
      rows_still = refl;
      same = refl;
    }

module _ {octets lengths rows₀ rows : List ℕ} {totals : Counts} {at i : ℕ} (g : Filling octets lengths rows₀ totals rows at i)
    (here : i < length lengths)
  where
    -- the log lies within the octets, and its row within the rows
    pub log_within : at + get_or lengths i 0 ≤ length octets
    log_within = omega (arith, g.place, sum_front octets lengths at i here)

    pub filling_turn : {one sum : Counts} {row rows₁ : List ℕ} {end : ℕ} → end ≡ at + get_or lengths i 0
        → one ≡ capped (counts_of (heard_in (take (end - at) (drop at octets)))) → sum ≡ capped (plus_of totals one)
        → row ≡ held_row one
        → rows₁ ≡ written rows (10 * i) row → length rows₁ ≡ length rows
        → Filling octets lengths rows₀ sum rows₁ end (i + 1)
    filling_turn {one} {sum} {row} {rows₁} {end} ends counted added row_is wrote kept =
        let size : end - at ≡ get_or lengths i 0 = omega (arith, ends) in
        let log : List ℕ = take (get_or lengths i 0) (drop at octets) in
        let one-is : one ≡ capped (counts_of (heard_in log)) = counted
        ∙ ap (λ (k : ℕ). capped (counts_of (heard_in (take k (drop at octets))))) size in
        let held : row ≡ held_row (capped (counts_of (heard_in log))) = row_is ∙ ap held_row one-is in
        let ten : length row ≡ 10 = ap length row_is ∙ length_row one in
        let rest : Counts = totals_of (logs_at octets lengths (at + get_or lengths i 0) (i + 1)) in
        record {
          before = plus_of g.before (counts_of (heard_in log));
          filled = g.filled ++ row;
          within = omega (arith, here);
          place = omega (arith, g.place, ends, sum_front octets lengths at i here);
          totals_are = added
              ∙ ap₂ (λ (a b : Counts). capped (plus_of a b)) g.totals_are one-is
              ∙ capped_both g.before (counts_of (heard_in log));
          totals_still = ap (λ (e : ℕ). plus_of (plus_of g.before (counts_of (heard_in log)))
              (totals_of (logs_at octets lengths e (i + 1)))) ends
              ∙ plus_in_turn g.before (counts_of (heard_in log)) rest
              ∙ ap (plus_of g.before) (sym (totals_front octets lengths at i here))
              ∙ g.totals_still;
          rows_are = wrote
              ∙ ap₂ (λ (r : List ℕ) (k : ℕ). written r k row) g.rows_are (sym g.rows_long)
              ∙ over_on rows₀ g.filled row;
          rows_long = length-append g.filled row ∙ omega (arith, g.rows_long, ten);
          rows_still = ap (λ (e : ℕ). (g.filled ++ row) ++ held_rows (logs_at octets lengths e (i + 1))) ends
              ∙ append_assoc g.filled row (held_rows (logs_at octets lengths (at + get_or lengths i 0) (i + 1)))
              ∙ ap (λ (r : List ℕ). g.filled ++ r)
              (ap (λ (r : List ℕ). r ++ held_rows (logs_at octets lengths (at + get_or lengths i 0) (i + 1))) held
              ∙ sym (rows_front octets lengths at i here))
              ∙ g.rows_still;
          same = kept ∙ g.same;
        }

pub filling_end : {octets lengths rows₀ rows : List ℕ} {totals : Counts} {at i : ℕ}
    → Filling octets lengths rows₀ totals rows at i
    → length lengths ≤ i → Fills octets lengths rows₀ totals rows
filling_end {octets} {lengths} {rows₀} {at = at} {i = i} g all =
    record {
      totals_are = g.totals_are
          ∙ ap capped
          (sym (none_more g.before) ∙ ap (plus_of g.before) (sym (totals_none octets lengths at i all)) ∙ g.totals_still);
      rows_after = g.rows_are
          ∙ ap (λ (r : List ℕ). over r rows₀)
          (sym (append-nil g.filled) ∙ ap (λ (r : List ℕ). g.filled ++ r) (sym (rows_none octets lengths at i all))
          ∙ g.rows_still);
    }

-- where no total is too many, the rows held are the rows
pub rows_small : (logs : List (List ℕ)) → too_many_of (totals_of logs) ≡ false → held_rows logs ≡ rows_of logs
unfolding held_rows rows_of heard_over
rows_small [] e = refl
rows_small (log ∷ logs) e =
    let both : too_many_of (plus_of (counts_of (heard_in log)) (totals_of logs)) ≡ false = ap too_many_of
    (sym (counts_joined (heard_in log) (heard_over logs))) ∙ e in
    let small = few (counts_of (heard_in log)) (few_first _ _ both) in
    ap₂ (λ (r rs : List ℕ). r ++ rs)
    (ap held_row (capped_small (counts_of (heard_in log)) small) ∙ row_small (counts_of (heard_in log)) small)
    (rows_small logs (few_second _ _ both))

pub length_rows : (octets lengths : List ℕ) → length (held_rows (logs_of octets lengths)) ≡ 10 * length lengths
unfolding held_rows logs_of
length_rows octets [] = refl
length_rows octets (k ∷ lengths) =
    let row : List ℕ = held_row (capped (counts_of (heard_in (take k octets)))) in
    length-append row (held_rows (logs_of (drop k octets) lengths))
    ∙ omega (arith, length_row (capped (counts_of (heard_in (take k octets)))), length_rows (drop k octets) lengths)
