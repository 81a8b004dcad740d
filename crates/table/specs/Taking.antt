-- Words of the code that makes a table: where standard input stands behind each octet, the sheet behind each piece, and the
-- lines that are written at the end. What the table is stands in Table.antt.
-- Assumes nothing.
use Rattle.std.specs.Prelude.{◌≡◌, ℕ, zero, suc, ◌+◌, ◌-◌, ◌*◌, ◌/◌, ◌%◌, ◌^◌, Bool, false, cond, ◌&&◌, List, [], ◌∷◌, ◌++◌, length, take, drop, ◌==◌, nat_le, nat_lt}
use Rattle.pieces.specs.Steps.{stood_of}
use Rattle.figures.specs.Adding.{rows_with, closed_of}
use Rattle.figures.specs.Code.{no_counts, capped}
use Rattle.figures.specs.Figures.{plus_of}
use Rattle.figures.specs.Sheets.{Answer, refused_by}
use Rattle.figures.specs.Taking.{start_tally, tally_after}
use Rattle.stops.specs.Kept.{kept_with}
use Rattle.stops.specs.Stops.{stop_of}
use Rattle.table.specs.declared.Ended as code
use Rattle.table.specs.declared.Input.{Input}
use Rattle.table.specs.declared.Sheet.{Sheet}
use Rattle.table.specs.declared.logs.Step.{Step}
use Rattle.table.specs.Table.{names_line, log_line, all_line, refused_line}

-- between two logs, so many of them whole, with this refusal
abbrev pub between_of : ℕ → ℕ → Input
between_of refusal logs = record { refusal = refusal; logs = logs; left = 0; digits = 0; number = 0 }

-- before the first log of so many files
unfoldable pub first_of : ℕ → Input
first_of files = cond (nat_lt 4096 files) (between_of 18 0) (between_of 0 0)

-- behind a log that ends here
unfoldable pub next_input : Input → Input
next_input i = cond (nat_lt 4095 i.logs) (between_of 18 i.logs) (between_of i.refusal (i.logs + 1))

-- an octet of a length, behind which no log is whole
abbrev pub read_of : Input → Step
read_of i = record { input = i; octets = 0; used = 1; whole = false }

-- behind a length: a log of so many octets begins
abbrev pub begins_of : ℕ → ℕ → Step
begins_of logs octets =
    record {
      input = record { refusal = 0; logs = logs; left = octets; digits = 0; number = 0 };
      octets = 0;
      used = 1;
      whole = (octets == 0);
    }

-- the next digit of a length
unfoldable pub goes_on_of : ℕ → ℕ → ℕ → Bool
goes_on_of digits number octet = nat_le 48 octet && (nat_le octet 57 && (nat_le digits 9 && nat_le (10 * number + (octet - 48)) 4294967295))

-- an octet between two logs
unfoldable pub length_step : Input → ℕ → Step
length_step i octet =
    cond (nat_lt 4095 i.logs) (read_of (between_of 18 i.logs))
    (cond (octet == 10)
    (cond (i.digits == 0) (read_of (between_of 5 i.logs)) (begins_of i.logs i.number))
    (cond (goes_on_of i.digits i.number octet)
    (read_of
    (record { refusal = 0; logs = i.logs; left = 0; digits = i.digits + 1; number = 10 * i.number + (octet - 48) }))
    (read_of (between_of 5 i.logs))))

-- as many of the octets ahead as are left of the log
abbrev pub share_of : ℕ → ℕ → ℕ
share_of left room = cond (nat_le left room) left room

abbrev pub left_of : Input → ℕ → Input
left_of i left = record { refusal = i.refusal; logs = i.logs; left = left; digits = i.digits; number = i.number }

unfoldable pub log_step : Input → ℕ → Step
log_step i room =
    record {
      input = left_of i (i.left - room);
      octets = share_of i.left room;
      used = share_of i.left room;
      whole = nat_le i.left room;
    }

-- so many octets ahead, the first of which is given; behind a refusal none is read
unfoldable pub step_of : Input → ℕ → ℕ → Step
step_of i octet room =
    cond (i.refusal == 0)
    (cond (i.left == 0) (length_step i octet) (log_step i room))
    (record { input = i; octets = 0; used = room; whole = false })

-- the refusal of an input that ends here
unfoldable pub last_of : Input → ℕ
last_of i =
    cond (i.refusal == 0) (cond (i.left == 0) (cond (i.digits == 0) 0 5) 5) i.refusal

-- a sheet before the first octet of so many files
abbrev pub start_of : ℕ → Sheet
start_of files = record { input = first_of files; tally = start_tally; totals = no_counts }

-- where a sheet stands: itself, and what the lent array, the lent rows and the lent run of where logs stopped hold
pub record Stood : Type 0 where
  pub sheet : Sheet
  pub held : List ℕ
  pub rows : List ℕ
  pub kept : List ℕ

-- with the log of a file that begins
abbrev pub opened_of : Sheet → Sheet
opened_of s = record { input = left_of s.input 18446744073709551615; tally = s.tally; totals = s.totals }

-- behind a log that ends here, and its row
abbrev pub next_of : Sheet → Sheet
next_of s =
    record {
      input = next_input s.input;
      tally = start_tally;
      totals = capped (plus_of s.totals s.tally.noted.counts);
    }

abbrev pub rows_next : Sheet → List ℕ → List ℕ
rows_next s rows = rows_with rows s.input.logs s.tally.noted.counts

-- and where it stopped
abbrev pub kept_next_of : Sheet → List ℕ → List ℕ → List ℕ
kept_next_of s held kept = kept_with kept s.input.logs (stop_of s.tally.standing held)

-- the whole promise of a log's end: the answer, and what the lent runs hold afterwards
pub record EndsLog (s : Sheet) (held rows kept : List ℕ) (answer : Sheet) (rows₁ kept₁ : List ℕ) : Type 0 where
  pub goes_on : answer ≡ next_of s
  pub rows_after : rows₁ ≡ rows_next s rows
  pub kept_after : kept₁ ≡ kept_next_of s held kept

-- where a sheet stands behind octets of a log, with the input there
abbrev pub counted_by : Stood → Input → List ℕ → Stood
counted_by s i octets =
    record {
      sheet = record { input = i; tally = tally_after s.sheet.tally s.held octets; totals = s.sheet.totals };
      held = (stood_of s.sheet.tally.standing s.held octets).held;
      rows = s.rows;
      kept = s.kept;
    }

-- and behind a log's end
abbrev pub log_ended : Stood → Stood
log_ended s =
    record {
      sheet = next_of s.sheet;
      held = s.held;
      rows = rows_next s.sheet s.rows;
      kept = kept_next_of s.sheet s.held s.kept;
    }

-- a step: the log ends where it is whole
unfoldable pub settled_of : Bool → Stood → Stood
settled_of whole s = cond whole (log_ended s) s

abbrev pub stepped_by : Step → Stood → List ℕ → Stood
stepped_by step s octets = settled_of step.whole (counted_by s step.input octets)

pub record Steps (s : Sheet) (step : Step) (held rows kept octets : List ℕ) (answer : Sheet) (held₁ rows₁ kept₁ : List ℕ) : Type 0 where
  pub stands : record { sheet = answer; held = held₁; rows = rows₁; kept = kept₁ }
      ≡ stepped_by step (record { sheet = s; held = held; rows = rows; kept = kept }) octets

-- what the octets ahead are
abbrev pub step_at : Stood → ℕ → List ℕ → Step
step_at s octet octets = step_of s.sheet.input octet (suc (length octets))

-- behind octets, the first so many of which are used already
unfoldable pub taken_from : ℕ → Stood → List ℕ → Stood
taken_from used s [] = s
taken_from (suc used) s (octet ∷ octets) = taken_from used s octets
taken_from zero s (octet ∷ octets) =
    taken_from ((step_at s octet octets).used - 1)
    (stepped_by (step_at s octet octets) s (take (step_at s octet octets).octets (octet ∷ octets))) octets

-- behind a piece
abbrev pub taken_of : Stood → List ℕ → Stood
taken_of s piece = taken_from 0 s piece

-- the whole promise of a piece: the answer, and what the lent array and the lent runs hold afterwards
pub record Takes (s : Sheet) (held rows kept piece : List ℕ) (answer : Sheet) (held₁ rows₁ kept₁ : List ℕ) : Type 0 where
  pub stands : record { sheet = answer; held = held₁; rows = rows₁; kept = kept₁ }
      ≡ taken_of (record { sheet = s; held = held; rows = rows; kept = kept }) piece

-- a sheet at its end: its refusal and the row of all logs together, how many logs, and how many lines
pub record Ended : Type 0 where
  pub answer : Answer
  pub logs : ℕ
  pub lines : ℕ

-- the code's
abbrev pub end_as : code.Ended → Ended
end_as e = record { answer = record { refusal = e.refusal; totals = e.totals }; logs = e.logs; lines = e.lines }

-- a sheet that is refused, and one that isn't, at its end
abbrev pub refused_end : Answer → Ended
refused_end answer = record { answer = answer; logs = 0; lines = 1 }

unfoldable pub closed_end : Answer → ℕ → Ended
closed_end answer logs =
    cond (answer.refusal == 0) (record { answer = answer; logs = logs; lines = (logs + 2) % 2 ^ 64 }) (refused_end answer)

unfoldable pub ended_of : Sheet → Ended
ended_of s =
    cond (last_of s.input == 0)
    (closed_end (closed_of s.totals) s.input.logs)
    (refused_end (refused_by (last_of s.input)))

-- the row at a log's place, where the rows go so far
unfoldable pub row_at : List ℕ → ℕ → List ℕ
row_at rows log = cond (nat_le (length rows / 10) log) [] (take 10 (drop (10 * log) rows))

-- a line, counted from 0
unfoldable pub line_of : Ended → List ℕ → ℕ → List ℕ
line_of e rows index =
    cond (e.answer.refusal == 0)
    (cond (index == 0) names_line
    (cond (nat_le index e.logs) (log_line (index - 1) (row_at rows (index - 1))) (all_line e.answer.totals)))
    (refused_line e.answer.refusal)

-- so many lines from one on, joined
unfoldable pub lines_from : Ended → List ℕ → ℕ → ℕ → List ℕ
lines_from e rows index zero = []
lines_from e rows index (suc more) = line_of e rows index ++ lines_from e rows (index + 1) more

-- all lines of a sheet that ends here
abbrev pub lines_of : Stood → List ℕ
lines_of s = lines_from (ended_of s.sheet) s.rows 0 (ended_of s.sheet).lines

-- pieces, each taken where the one before it left off
unfoldable pub taken_over : Stood → List (List ℕ) → Stood
taken_over s [] = s
taken_over s (piece ∷ pieces) = taken_over (taken_of s piece) pieces

abbrev pub standing : ℕ → List ℕ → List ℕ → List ℕ → Stood
standing files held rows kept = record { sheet = start_of files; held = held; rows = rows; kept = kept }

-- all that is printed of standard input in pieces
abbrev pub printed_over : List ℕ → List ℕ → List ℕ → List (List ℕ) → List ℕ
printed_over held rows kept pieces = lines_of (taken_over (standing 0 held rows kept) pieces)

-- files one after the other, each in pieces
abbrev pub log_opened : Stood → Stood
log_opened s = record { sheet = opened_of s.sheet; held = s.held; rows = s.rows; kept = s.kept }

unfoldable pub files_over : Stood → List (List (List ℕ)) → Stood
files_over s [] = s
files_over s (file ∷ files) = files_over (log_ended (taken_over (log_opened s) file)) files

-- and all that is printed of them
abbrev pub printed_over_files : List ℕ → List ℕ → List ℕ → List (List (List ℕ)) → List ℕ
printed_over_files held rows kept files = lines_of (files_over (standing (length files) held rows kept) files)
