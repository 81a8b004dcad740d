-- Inputs of a few octets, from their logs to their refusals, computed.
-- Assumes nothing.
use Rattle.std.proofs.Common.{◌≡◌, ℕ, true, false, List, [], ◌∷◌, ◌++◌, refl}
use Rattle.reading.specs.Totals.{total_of}
use Rattle.figures.specs.Figures.{counts_of, per_million, row_of, too_many_of}
use Rattle.figures.specs.Sheets.{heard_over}
use Rattle.text.specs.Text.{digits_of}
use Rattle.text.specs.Words.{words}
use Rattle.table.specs.Logs.{are_digits, number_on, line_in, begins_with_length, begins_with_log, Logs, no_logs, logs_to, logs_in}
use Rattle.table.specs.Table.{cells_of, names_line, log_lines, table_of, text_of, printed_of}

unfolded : Unit {0}
unfolding are_digits number_on line_in begins_with_length begins_with_log logs_to
unfolded = tt

printed : Unit {0}
unfolding unfolded total_of counts_of per_million row_of too_many_of heard_over digits_of cells_of log_lines table_of text_of
printed = tt

abbrev some : List (List ℕ) → Logs
some logs = record { refusal = 0; logs = logs }

-- "No input at all is a sheet of no logs"
pub no_input : logs_in [] ≡ some []
unfolding unfolded
no_input = refl

-- "one to ten decimal digits, a newline, then that many octets"
pub three_logs : logs_in (words "3\nabc0\n0000000002\nde") ≡ some (words "abc" ∷ [] ∷ words "de" ∷ [])
unfolding unfolded
three_logs = refl

-- a log may hold what looks like a length
pub newline_in_a_log : logs_in (words "3\n0\n0") ≡ some (words "0\n0" ∷ [])
unfolding unfolded
newline_in_a_log = refl

pub eleven_digits : logs_in (words "00000000003\nabc") ≡ no_logs 5
unfolding unfolded
eleven_digits = refl

pub no_digit_at_all : logs_in (words "\n") ≡ no_logs 5
unfolding unfolded
no_digit_at_all = refl

pub blank_before : logs_in (words " 3\nabc") ≡ no_logs 5
unfolding unfolded
blank_before = refl

pub no_newline : logs_in (words "3") ≡ no_logs 5
unfolding unfolded
no_newline = refl

-- "or where the input ends before that many octets"
pub cut_log : (logs_in (words "0\n3\nab")).refusal ≡ 5
unfolding unfolded
cut_log = refl

-- "or is above 4,294,967,295"
pub longest : begins_with_length (words "4294967295\n") ≡ true
unfolding unfolded
longest = refl

pub one_longer : begins_with_length (words "4294967296\n") ≡ false
unfolding unfolded
one_longer = refl

-- "18 where more comes after the 4,096th log", with two in the place of 4,096
pub more_behind_the_last : (logs_to 2 (words "0\n1\na.")).refusal ≡ 18
unfolding unfolded
more_behind_the_last = refl

pub none_behind_the_last : logs_to 2 (words "0\n1\na") ≡ some ([] ∷ words "a" ∷ [])
unfolding unfolded
none_behind_the_last = refl

-- "No input at all is a sheet of no logs: the names, and `all` with ten zeros"
pub no_input_printed : printed_of [] ≡ names_line ++ words "all,0,0,0,0,0,0,0,0,0,0\n"
unfolding printed
no_input_printed = refl

-- "A sheet that is refused prints one line alone"
pub refused_printed : printed_of (words "3\nab") ≡ words "sheet refused 5\n"
unfolding printed
refused_printed = refl
