-- The table that `sheet` prints: the line of names, a line for each log, and the line of all logs together.
-- Assumes nothing.
use Rattle.std.specs.Prelude.{◌≡◌, ℕ, ◌+◌, cond, List, [], ◌∷◌, ◌++◌, length, take, ◌==◌, nat_lt}
use Rattle.runs.specs.Runs.{over}
use Rattle.figures.specs.Figures.{counts_of, row_of, too_many_of}
use Rattle.figures.specs.Sheets.{heard_in, totals_of}
use Rattle.text.specs.declared.Put.{Put}
use Rattle.text.specs.Put.{listed}
use Rattle.text.specs.Text.{decimal, item}
use Rattle.text.specs.Words.{words}
use Rattle.table.specs.Logs.{Logs, logs_in}

-- numbers, each behind a comma
unfoldable pub cells_of : List ℕ → List ℕ
cells_of [] = []
cells_of (n ∷ ns) = item (words ",") n ++ cells_of ns

abbrev pub names_line : List ℕ
names_line =
    words "log,sound,missing,refused 8,refused 9,refused 15,refused 20,marked 0,marked 1,marked 2,missing per million\n"

-- as `0,5,7,1,1,0,0,60,0,84,583333`
abbrev pub log_line : ℕ → List ℕ → List ℕ
log_line index row = decimal index ++ (cells_of row ++ words "\n")

-- as `all,5,7,1,1,0,0,60,0,84,583333`
abbrev pub all_line : List ℕ → List ℕ
all_line row = words "all" ++ (cells_of row ++ words "\n")

-- "A sheet that is refused prints one line alone"
abbrev pub refused_line : ℕ → List ℕ
refused_line refusal = item (words "sheet refused ") refusal ++ words "\n"

-- "one line for each log (counted from 0) with its ten numbers"
unfoldable pub log_lines : ℕ → List (List ℕ) → List ℕ
log_lines index [] = []
log_lines index (log ∷ logs) = log_line index (row_of (counts_of (heard_in log))) ++ log_lines (index + 1) logs

-- "the line of names, one line for each log .. and last the line `all`"; "19 at the end"
unfoldable pub table_of : List (List ℕ) → List ℕ
table_of logs =
    cond (too_many_of (totals_of logs)) (refused_line 19) (names_line ++ (log_lines 0 logs ++ all_line (row_of (totals_of logs))))

-- what is printed of the logs of an input, or of its refusal
unfoldable pub text_of : Logs → List ℕ
text_of l = cond (l.refusal == 0) (table_of l.logs) (refused_line l.refusal)

-- of standard input
abbrev pub printed_of : List ℕ → List ℕ
printed_of input = text_of (logs_in input)

-- of files, each of them a whole log: "18 for more than 4,096 logs"
unfoldable pub printed_of_files : List (List ℕ) → List ℕ
printed_of_files logs = cond (nat_lt 4096 (length logs)) (refused_line 18) (table_of logs)

-- the whole promise of a line: what was said, and what the lent run holds afterwards
pub record Prints (run : List ℕ) (put : Put) (run₁ : List ℕ) (line : List ℕ) : Type 0 where
  pub said : put ≡ listed (length run) line
  pub wrote : run₁ ≡ over (take (length run) line) run
