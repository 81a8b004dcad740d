-- Words of the code that makes a sheet log by log: each log's row is held, and the totals are judged when all logs are counted.
-- Assumes nothing.
use Rattle.std.specs.Prelude.{cond, List, [], ◌∷◌, ◌≡◌, ℕ, ◌+◌, ◌*◌, ◌/◌, leb, length}
use Rattle.runs.specs.Runs.{written}
use Rattle.figures.specs.declared.Counts.{Counts}
use Rattle.figures.specs.Code.{capped, held_row}
use Rattle.figures.specs.Figures.{counts_of, plus_of, row_of, too_many_of}
use Rattle.figures.specs.Sheets.{Answer, heard_in, refused_by}

-- a row in its place, as far as there are rows
unfoldable pub rows_with : List ℕ → ℕ → Counts → List ℕ
rows_with rows index one = cond (leb (length rows / 10) index) rows (written rows (10 * index) (held_row (capped one)))

-- the whole promise of adding a log: the totals with it, and its row
pub record Adds (rows : List ℕ) (index : ℕ) (totals one answer : Counts) (rows₁ : List ℕ) : Type 0 where
  pub totals_are : answer ≡ capped (plus_of totals one)
  pub rows_after : rows₁ ≡ rows_with rows index one

-- "then 19 for a total above 4,294,967,295"
unfoldable pub closed_of : Counts → Answer
closed_of totals = cond (too_many_of totals) (refused_by 19) (record { refusal = 0; totals = row_of totals })

-- logs added one after the other, each as its pieces count it: the totals and the rows behind the last
pub record Added : Type 0 where
  pub totals : Counts
  pub rows : List ℕ

unfoldable pub added_over : Counts → List ℕ → ℕ → List (List ℕ) → Added
added_over totals rows index [] = record { totals = totals; rows = rows }
added_over totals rows index (log ∷ logs) =
    added_over (capped (plus_of totals (capped (counts_of (heard_in log))))) (rows_with rows index (capped (counts_of (heard_in log))))
    (index + 1) logs
