-- Sheets add up: "sheets of two lists joined add up to the sheet of the joined list, if that isn't refused, the per-million
-- line apart".
-- Assumes nothing.
use mathlib.Core.Bool.{false, not}
use mathlib.Core.List.{List, [], ◌∷◌, ◌++◌, append_assoc}
use mathlib.Core.Path.{◌≡◌, refl, sym, ◌∙◌, ap, ap₂}
use Prim.Native.Nat.{ℕ, zero, suc, ◌+◌, ◌*◌, ◌≤◌, ◌<◌}
use native.Mathlib.Omega.{arith}
use borrow.Author.Tests.{eq-eqb, le-ltb, ltb-false, eqb-true, not-false}
use lib.Dec.{eqb, ltb}
use lib.ListN.{length, get_or, take, drop, length-append, length-drop}
use lib.Seq.{take-append-le, drop-append-le}
use Rattle.runs.proofs.Laws.{past, neither}
use Rattle.reading.specs.Heard.{Heard}
use Rattle.reading.specs.Totals.{total_of}
use Rattle.reading.proofs.Totals.{total_joined}
use Rattle.figures.specs.declared.Counts.{Counts}
use Rattle.figures.specs.Figures.{counts_of, row_of, too_many_of, plus_of}
use Rattle.figures.specs.Sheets.{
  Answer,
  logs_of,
  heard_in,
  heard_over,
  totals_of,
  rows_of,
  sum_of,
  unlike,
  sheet_refusal,
  sheet_of,
  Sheets,
  AddUp,
}
use Rattle.figures.proofs.Demand1.{demand_1_sheet}
use Rattle.figures.proofs.Laws.{counts_joined, few_first, few_second}

-- two lists of logs joined
pub heard_over_joined : (a b : List (List ℕ)) → heard_over (a ++ b) ≡ heard_over a ++ heard_over b
unfolding heard_over
heard_over_joined [] b = refl
heard_over_joined (log ∷ a) b =
    ap (λ (hs : List Heard). heard_in log ++ hs) (heard_over_joined a b)
    ∙ sym (append_assoc (heard_in log) (heard_over a) (heard_over b))

pub rows_joined : (a b : List (List ℕ)) → rows_of (a ++ b) ≡ rows_of a ++ rows_of b
unfolding rows_of
rows_joined [] b = refl
rows_joined (log ∷ a) b =
    ap (λ (ns : List ℕ). row_of (counts_of (heard_in log)) ++ ns) (rows_joined a b)
    ∙ sym (append_assoc (row_of (counts_of (heard_in log))) (rows_of a) (rows_of b))

pub totals_joined : (a b : List (List ℕ)) → totals_of (a ++ b) ≡ plus_of (totals_of a) (totals_of b)
totals_joined a b = ap counts_of (heard_over_joined a b) ∙ counts_joined (heard_over a) (heard_over b)

-- logs that lie end to end
no_octets : (octets : List ℕ) → 0 ≡ length octets → octets ≡ []
no_octets [] e = refl
no_octets (x ∷ xs) e = absurd (omega (arith, e))

pub logs_joined : (lengths others octets more : List ℕ) → sum_of lengths ≡ length octets
    → logs_of (octets ++ more) (lengths ++ others) ≡ logs_of octets lengths ++ logs_of more others
unfolding logs_of total_of
logs_joined [] others octets more e = rw (no_octets octets e) refl
logs_joined (n ∷ ns) others octets more e =
    let within : n ≤ length octets = omega (arith, e) in
    let left : sum_of ns ≡ length (drop n octets) = omega (arith, e, length-drop n octets) in
    ap₂ (λ (log : List ℕ) (rest : List ℕ). log ∷ logs_of rest (ns ++ others)) (take-append-le n octets more within)
    (drop-append-le n octets more within)
    ∙ ap (λ (logs : List (List ℕ)). take n octets ∷ logs) (logs_joined ns others (drop n octets) more left)

-- what is known of a sheet that isn't refused
pub record Given (octets lengths : List ℕ) (rows : ℕ) : Type 0 where
  pub few_logs : length lengths ≤ 4096
  pub octets_are : sum_of lengths ≡ length octets
  pub rows_are : rows ≡ 10 * length lengths
  pub few : too_many_of (totals_of (logs_of octets lengths)) ≡ false

module _ (octets lengths : List ℕ) (rows : ℕ) where
  pub given : sheet_refusal octets lengths rows ≡ 0 → Given octets lengths rows
  unfolding sheet_refusal unlike
  given e =
      let eighteen = past (ltb 4096 (length lengths)) 17 _ e in
      let five = past (unlike (length octets) lengths rows) 4 _ eighteen.1 in
      let nineteen = past (too_many_of (totals_of (logs_of octets lengths))) 18 _ five.1 in
      let like = neither (not (eqb (sum_of lengths) (length octets))) _ five.0 in
      record {
        few_logs = ltb-false 4096 _ eighteen.0;
        octets_are = eqb-true _ _ (not-false _ like.0);
        rows_are = eqb-true _ _ (not-false _ like.1);
        few = nineteen.0;
      }

  pub given_back : Given octets lengths rows → sheet_refusal octets lengths rows ≡ 0
  unfolding sheet_refusal unlike
  given_back g =
      rw (le-ltb 4096 _ g.few_logs, eq-eqb _ _ g.octets_are, eq-eqb _ _ g.rows_are, g.few) refl

-- over the definition
module _ (octets more lengths others : List ℕ) (first : sum_of lengths ≡ length octets)
    (taken : sheet_refusal (octets ++ more) (lengths ++ others) (10 * length (lengths ++ others)) ≡ 0)
  where
    abbrev all : Given (octets ++ more) (lengths ++ others) (10 * length (lengths ++ others))
    all = given (octets ++ more) (lengths ++ others) (10 * length (lengths ++ others)) taken

    logs : logs_of (octets ++ more) (lengths ++ others) ≡ logs_of octets lengths ++ logs_of more others
    logs = logs_joined lengths others octets more first

    pub adds_rows : rows_of (logs_of (octets ++ more) (lengths ++ others)) ≡ rows_of (logs_of octets lengths) ++ rows_of
        (logs_of more others)
    adds_rows = ap rows_of logs ∙ rows_joined (logs_of octets lengths) (logs_of more others)

    pub adds_totals : totals_of (logs_of (octets ++ more) (lengths ++ others))
        ≡ plus_of (totals_of (logs_of octets lengths)) (totals_of (logs_of more others))
    adds_totals = ap (λ (ls : List (List ℕ)). totals_of ls) logs ∙ totals_joined (logs_of octets lengths) (logs_of more others)

    sum_few : too_many_of (plus_of (totals_of (logs_of octets lengths)) (totals_of (logs_of more others))) ≡ false
    sum_few = ap too_many_of (sym adds_totals) ∙ all.few

    pub first_taken : sheet_refusal octets lengths (10 * length lengths) ≡ 0
    first_taken =
        given_back octets lengths (10 * length lengths)
        (record {
          few_logs = omega (arith, all.few_logs, length-append lengths others);
          octets_are = first;
          rows_are = refl;
          few = few_first _ _ sum_few;
        })

    pub second_taken : sheet_refusal more others (10 * length others) ≡ 0
    second_taken =
        given_back more others (10 * length others)
        (record {
          few_logs = omega (arith, all.few_logs, length-append lengths others);
          octets_are = omega (
            arith,
            all.octets_are,
            first,
            length-append octets more,
            total_joined (λ n. n) lengths others,
          );
          rows_are = refl;
          few = few_second _ _ sum_few;
        })

-- a number of the row of all together, the last one apart
total_adds : (a b : Counts) (k : ℕ) → k < 9 → get_or (row_of (plus_of a b)) k 0 ≡ get_or (row_of a) k 0 + get_or (row_of b) k 0
unfolding row_of
total_adds a b zero h = refl
total_adds a b (suc zero) h = refl
total_adds a b (suc (suc zero)) h = refl
total_adds a b (suc (suc (suc zero))) h = refl
total_adds a b (suc (suc (suc (suc zero)))) h = refl
total_adds a b (suc (suc (suc (suc (suc zero))))) h = refl
total_adds a b (suc (suc (suc (suc (suc (suc zero)))))) h = refl
total_adds a b (suc (suc (suc (suc (suc (suc (suc zero))))))) h = refl
total_adds a b (suc (suc (suc (suc (suc (suc (suc (suc zero)))))))) h = refl
total_adds a b (suc (suc (suc (suc (suc (suc (suc (suc (suc n))))))))) h = absurd (omega arith)

-- what a sheet that isn't refused says
module _ {octets lengths rows : List ℕ} {answer : Answer} {rows₁ : List ℕ} (s : Sheets octets lengths rows answer rows₁) where
  pub totals_said : sheet_refusal octets lengths (length rows) ≡ 0 → answer.totals ≡ row_of (totals_of (logs_of octets lengths))
  unfolding sheet_of
  totals_said none =
      let said : answer ≡ record { refusal = 0; totals = row_of (totals_of (logs_of octets lengths)) } =
      s.answered ∙ rw (eq-eqb (sheet_refusal octets lengths (length rows)) 0 none) in
      ap (λ (a : Answer). a.totals) said

  pub rows_said : sheet_refusal octets lengths (length rows) ≡ 0 → rows₁ ≡ rows_of (logs_of octets lengths)
  rows_said none = s.rows_after ∙ rw (eq-eqb (sheet_refusal octets lengths (length rows)) 0 none)

-- over every three calls
pub sheets_add_up : {octets more lengths others rows rows' rows'' rows-a rows-b rows_joined : List ℕ} {a b joined : Answer}
    → sum_of lengths ≡ length octets → length rows ≡ 10 * length lengths → length rows' ≡ 10 * length others
    → Sheets octets lengths rows a rows-a → Sheets more others rows' b rows-b
    → Sheets (octets ++ more) (lengths ++ others) rows'' joined rows_joined → joined.refusal ≡ 0
    → AddUp a b joined rows-a rows-b rows_joined
sheets_add_up {octets} {more} {lengths} {others} {rows} {rows'} {rows''} {a = a} {b = b} {joined = joined} first long long' sa
    sb sj none =
    let taken : sheet_refusal (octets ++ more) (lengths ++ others) (length rows'') ≡ 0 = sym (demand_1_sheet _ _ _ _ _ sj).0
    ∙ none in
    let size : length rows'' ≡ 10 * length (lengths ++ others) = (given (octets ++ more) (lengths ++ others) (length rows'')
    taken).rows_are in
    let taken' : sheet_refusal (octets ++ more) (lengths ++ others) (10 * length (lengths ++ others)) ≡ 0 =
    ap (sheet_refusal (octets ++ more) (lengths ++ others)) (sym size) ∙ taken in
    let a-taken : sheet_refusal octets lengths (length rows) ≡ 0 =
    ap (sheet_refusal octets lengths) long ∙ first_taken octets more lengths others first taken' in
    let b-taken : sheet_refusal more others (length rows') ≡ 0 =
    ap (sheet_refusal more others) long' ∙ second_taken octets more lengths others first taken' in
    record {
      first_taken = (demand_1_sheet _ _ _ _ _ sa).0 ∙ a-taken;
      second_taken = (demand_1_sheet _ _ _ _ _ sb).0 ∙ b-taken;
      rows = rows_said sj taken
          ∙ adds_rows octets more lengths others first taken'
          ∙ sym (ap₂ (λ (x y : List ℕ). x ++ y) (rows_said sa a-taken) (rows_said sb b-taken));
      totals = λ k h.
          ap (λ (r : List ℕ). get_or r k 0) (totals_said sj taken ∙ ap row_of (adds_totals octets more lengths others first taken'))
          ∙ total_adds (totals_of (logs_of octets lengths)) (totals_of (logs_of more others)) k h
          ∙ sym (ap₂ (λ (x y : List ℕ). get_or x k 0 + get_or y k 0) (totals_said sa a-taken) (totals_said sb b-taken));
    }
