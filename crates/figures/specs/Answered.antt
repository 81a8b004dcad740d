-- What the code answers of a sheet, in the request's record.
-- Assumes nothing.
use Rattle.std.specs.Prelude.{List, ℕ, Result, Ok, Err}
use Rattle.refusals.specs.declared.Refusal.{Refusal}
use Rattle.refusals.specs.Refusals.{number_of}
use Rattle.figures.specs.Sheets.{Answer, refused_by}

-- the code's answer
abbrev pub answered : Result (List ℕ) Refusal → Answer
answered (Ok totals) = record { refusal = 0; totals = totals }
answered (Err refusal) = refused_by (number_of refusal)
