-- Laws of a sheet's answer: what each check gives in its turn, and the sheet where none refuses.
-- Assumes nothing.
use mathlib.Core.Bool.{Bool, true, false, cond, not}
use mathlib.Core.List.{List}
use mathlib.Core.Path.{◌≡◌, refl, sym, ◌∙◌, ap}
use Prim.Native.Nat.{ℕ, ◌*◌, ◌≤◌, ◌<◌}
use native.Mathlib.Omega.{arith}
use borrow.Author.Tests.{eq-eqb, ne_eqb, lt-ltb, le-ltb, eqb-true, not-false}
use lib.Dec.{eqb}
use lib.ListN.{length, take, drop}
use lib.Seq.{take_at}
use Rattle.runs.specs.Runs.{over}
use Rattle.runs.proofs.Laws.{neither}
use Rattle.figures.specs.declared.Counts.{Counts}
use Rattle.figures.specs.Code.{held_row, held_rows, Fills}
use Rattle.figures.specs.Figures.{row_of, too_many_of}
use Rattle.figures.specs.Sheets.{Answer, logs_of, totals_of, rows_of, sum_of, unlike, sheet_refusal, refused_by, sheet_of, Sheets}
use Rattle.figures.proofs.Going.{rows_small, length_rows}
use Rattle.figures.proofs.Laws.{capped_many, total_row}

module _ (octets lengths rows : List ℕ) where
  abbrev refusal : ℕ
  refusal = sheet_refusal octets lengths (length rows)

  refuses : {answer : Answer} (k : ℕ) → refusal ≡ k → (k ≡ 0 → ⊥) → answer ≡ refused_by k → Sheets octets lengths rows answer rows
  unfolding sheet_of
  refuses k is some e =
      let test : eqb refusal 0 ≡ false = ne_eqb refusal 0 (λ none. some (sym is ∙ none)) in
      record {
        answered = e ∙ ap refused_by (sym is) ∙ sym (rw test);
        rows_after = sym (rw test);
      }

  pub says_18 : {answer : Answer} → 4096 < length lengths → answer ≡ refused_by 18 → Sheets octets lengths rows answer rows
  unfolding sheet_refusal
  says_18 many e = refuses 18 (rw (lt-ltb 4096 (length lengths) many) refl) (λ none. omega arith) e

  module _ (few_logs : length lengths ≤ 4096) {differ : Bool} (told : differ ≡ unlike (length octets) lengths (length rows)) where
    pub says_5 : {answer : Answer} → differ ≡ true → answer ≡ refused_by 5 → Sheets octets lengths rows answer rows
    unfolding sheet_refusal
    says_5 so e = refuses 5 (rw (le-ltb 4096 (length lengths) few_logs, ← told, so) refl) (λ none. omega arith) e

    module _ (none : differ ≡ false) where
      like : (not (eqb (sum_of lengths) (length octets)) ≡ false) × (not (eqb (length rows) (10 * length lengths)) ≡ false)
      unfolding unlike
      like = neither (not (eqb (sum_of lengths) (length octets))) _ (sym told ∙ none)

      pub octets_are : sum_of lengths ≡ length octets
      octets_are = eqb-true _ _ (not-false _ like.0)

      pub rows_are : length rows ≡ 10 * length lengths
      rows_are = eqb-true _ _ (not-false _ like.1)

      module _ {held held₁ : List ℕ} {counts : Counts} {many : Bool} (fills : Fills octets lengths held counts held₁)
          (says : many ≡ too_many_of counts) where
        abbrev logs : List (List ℕ)
        logs = logs_of octets lengths

        many_is : many ≡ too_many_of (totals_of logs)
        many_is = says ∙ ap too_many_of fills.totals_are ∙ capped_many (totals_of logs)

        refusal_is : refusal ≡ cond many 19 0
        unfolding sheet_refusal
        refusal_is = rw (le-ltb 4096 (length lengths) few_logs, ← told, none, ← many_is) refl

        pub says_19 : {answer : Answer} → many ≡ true → answer ≡ refused_by 19 → Sheets octets lengths rows answer rows
        says_19 so e = refuses 19 (refusal_is ∙ ap (λ (b : Bool). cond b 19 0) so) (λ zero. omega arith) e

        module _ (fits : many ≡ false) where
          taken : refusal ≡ 0
          taken = refusal_is ∙ ap (λ (b : Bool). cond b 19 0) fits

          -- the rows that were held are copied
          held_rows_lem : take (length rows) held₁ ≡ rows_of logs
          unfolding over
          held_rows_lem =
              ap (take (length rows)) fills.rows_after
              ∙ take_at (held_rows logs) (drop (length (held_rows logs)) held) (length rows)
              (length_rows octets lengths ∙ sym rows_are)
              ∙ rows_small logs (sym many_is ∙ fits)

          pub says_0 : {row rows₁ : List ℕ} → rows₁ ≡ take (length rows) held₁ → row ≡ held_row counts
              → Sheets octets lengths rows (record { refusal = 0; totals = row }) rows₁
          unfolding sheet_of
          says_0 {row} copied row_is =
              let test : eqb refusal 0 ≡ true = eq-eqb refusal 0 taken in
              let total : row ≡ row_of (totals_of logs) = row_is
              ∙ total_row (totals_of logs) fills.totals_are (sym fits ∙ says) in
              record {
                answered = ap (λ (r : List ℕ). record { refusal = 0; totals = r }) total ∙ sym (rw test);
                rows_after = copied ∙ held_rows_lem ∙ sym (rw test);
              }
