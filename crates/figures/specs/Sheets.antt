-- One sheet over many logs, request 3: a row for each log and one for all together, and its refusals.
-- Assumes nothing.
use Rattle.std.specs.Prelude.{Bool, cond, not, ◌||◌, List, [], ◌∷◌, ◌++◌, ◌≡◌, ℕ, ◌+◌, ◌*◌, ◌<◌, eqb, ltb, length, get_or, take, drop, replicate}
use Rattle.reading.specs.Heard.{Heard}
use Rattle.reading.specs.Reading.{reading_of}
use Rattle.reading.specs.Totals.{total_of}
use Rattle.figures.specs.declared.Counts.{Counts}
use Rattle.figures.specs.Figures.{counts_of, row_of, too_many_of}

-- "The logs lie end to end in one lent run, their lengths in another"
unfoldable pub logs_of : List ℕ → List ℕ → List (List ℕ)
logs_of octets [] = []
logs_of octets (n ∷ ns) = take n octets ∷ logs_of (drop n octets) ns

-- "each read up to its first framing fault (a refused header counts nothing)": what is made of the records of one log
abbrev pub heard_in : List ℕ → List Heard
heard_in log = (reading_of log).heard

-- and of all logs together
unfoldable pub heard_over : List (List ℕ) → List Heard
heard_over [] = []
heard_over (log ∷ logs) = heard_in log ++ heard_over logs

-- "Each total is defined from the logs' records and not from running sums"
abbrev pub totals_of : List (List ℕ) → Counts
totals_of logs = counts_of (heard_over logs)

-- "one row a log": ten numbers each, one log after the other
unfoldable pub rows_of : List (List ℕ) → List ℕ
rows_of [] = []
rows_of (log ∷ logs) = row_of (counts_of (heard_in log)) ++ rows_of logs

-- the lengths added up, as a sum without end
abbrev pub sum_of : List ℕ → ℕ
sum_of lengths = total_of (λ n. n) lengths

-- 5: "where the lengths don't add up to the octets or rows and logs differ in number"; the octets and the rows are told by how many
-- they are
unfoldable pub unlike : ℕ → List ℕ → ℕ → Bool
unlike octets lengths rows = not (eqb (sum_of lengths) octets) || not (eqb rows (10 * length lengths))

-- "18 for more than 4,096 logs, then 5 .., then 19 for a total above 4,294,967,295"
unfoldable pub sheet_refusal : List ℕ → List ℕ → ℕ → ℕ
sheet_refusal octets lengths rows =
    cond (ltb 4096 (length lengths)) 18
    (cond (unlike (length octets) lengths rows) 5
    (cond (too_many_of (totals_of (logs_of octets lengths))) 19 0))

-- what a sheet answers: the refusal (0: none), and the row of all logs together
pub record Answer : Type 0 where
  pub refusal : ℕ
  pub totals : List ℕ

-- a refusal, and zeros
abbrev pub refused_by : ℕ → Answer
refused_by refusal = record { refusal = refusal; totals = replicate 10 0 }

-- the row of all together has its own missing per million, worked out from the totals
unfoldable pub sheet_of : List ℕ → List ℕ → ℕ → Answer
sheet_of octets lengths rows =
    cond (eqb (sheet_refusal octets lengths rows) 0)
    (record { refusal = 0; totals = row_of (totals_of (logs_of octets lengths)) })
    (refused_by (sheet_refusal octets lengths rows))

-- the whole promise: the rows are all written, or none of them
pub record Sheets (octets lengths rows : List ℕ) (answer : Answer) (rows₁ : List ℕ) : Type 0 where
  pub answered : answer ≡ sheet_of octets lengths (length rows)
  pub rows_after : rows₁ ≡ cond (eqb (sheet_refusal octets lengths (length rows)) 0) (rows_of (logs_of octets lengths)) rows

-- "sheets of two lists joined add up to the sheet of the joined list, if that isn't refused, the per-million line apart": then neither
-- of the two is refused, its rows are theirs, and its first nine totals are the sums of theirs
pub record AddUp (a b joined : Answer) (rows-a rows-b rows_joined : List ℕ) : Type 0 where
  pub first_taken : a.refusal ≡ 0
  pub second_taken : b.refusal ≡ 0
  pub rows : rows_joined ≡ rows-a ++ rows-b
  pub totals : (k : ℕ) → k < 9 → get_or joined.totals k 0 ≡ get_or a.totals k 0 + get_or b.totals k 0
