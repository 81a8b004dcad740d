-- What a sheet leaves: the refusal, the rows, and the row of all logs together in the array lent to it.
-- Assumes nothing.
use Rattle.std.specs.Prelude.{cond, List, ◌≡◌, ℕ, eqb, length}
use Rattle.figures.specs.Sheets.{logs_of, rows_of, sheet_refusal, sheet_of}

pub record DrawsUp (octets lengths rows : List ℕ) (refusal : ℕ) (rows₁ totals₁ : List ℕ) : Type 0 where
  pub refused : refusal ≡ (sheet_of octets lengths (length rows)).refusal
  pub rows_after : rows₁ ≡ cond (eqb (sheet_refusal octets lengths (length rows)) 0) (rows_of (logs_of octets lengths)) rows
  pub totals_after : totals₁ ≡ (sheet_of octets lengths (length rows)).totals
