-- Logs on standard input, "each after its length: one to ten decimal digits, a newline, then that many octets".
-- Assumes nothing.
use Rattle.std.specs.Prelude.{ℕ, zero, suc, ◌+◌, ◌-◌, ◌*◌, Bool, true, cond, ◌&&◌, List, [], ◌∷◌, length, take, drop, ◌==◌, nat_le, nat_lt}

-- "decimal digits": the octets from 48 to 57
abbrev pub is_digit : ℕ → Bool
is_digit octet = nat_le 48 octet && nat_le octet 57

unfoldable pub are_digits : List ℕ → Bool
are_digits [] = true
are_digits (octet ∷ octets) = is_digit octet && are_digits octets

-- the number that decimal digits make behind those already read
unfoldable pub number_on : ℕ → List ℕ → ℕ
number_on n [] = n
number_on n (digit ∷ digits) = number_on (10 * n + (digit - 48)) digits

-- what stands before the first newline, and what behind it
unfoldable pub line_in : List ℕ → List ℕ
line_in [] = []
line_in (octet ∷ octets) = cond (octet == 10) [] (octet ∷ line_in octets)

abbrev pub behind_line : List ℕ → List ℕ
behind_line input = drop (length (line_in input) + 1) input

-- the number before the first newline
abbrev pub length_in : List ℕ → ℕ
length_in input = number_on 0 (line_in input)

-- "one to ten decimal digits, a newline", and not "above 4,294,967,295". The first test says that a newline ends the line
unfoldable pub begins_with_length : List ℕ → Bool
begins_with_length input =
    nat_lt (length (line_in input)) (length input)
    && (nat_le 1 (length (line_in input)) && (nat_le (length (line_in input)) 10
    && (are_digits (line_in input) && nat_le (length_in input) 4294967295)))

-- "then that many octets"
unfoldable pub begins_with_log : List ℕ → Bool
begins_with_log input = begins_with_length input && nat_le (length_in input) (length (behind_line input))

-- these octets are a log; and what stands behind it
abbrev pub first_log : List ℕ → List ℕ
first_log input = take (length_in input) (behind_line input)

abbrev pub behind_log : List ℕ → List ℕ
behind_log input = drop (length_in input) (behind_line input)

-- the logs that an input holds, and its refusal (0: none)
pub record Logs : Type 0 where
  pub refusal : ℕ
  pub logs : List (List ℕ)

abbrev pub no_logs : ℕ → Logs
no_logs refusal = record { refusal = refusal; logs = [] }

abbrev pub with_log : List ℕ → Logs → Logs
with_log log behind = record { refusal = behind.refusal; logs = log ∷ behind.logs }

-- the logs of an input that may hold so many: "18 where more comes after the 4,096th log; 5 at a length that isn't one to ten
-- decimal digits and a newline, or is above 4,294,967,295 .., or where the input ends before that many octets"
unfoldable pub logs_to : ℕ → List ℕ → Logs
logs_to zero input = cond (length input == 0) (no_logs 0) (no_logs 18)
logs_to (suc most) input =
    cond (length input == 0) (no_logs 0)
    (cond (begins_with_log input) (with_log (first_log input) (logs_to most (behind_log input))) (no_logs 5))

abbrev pub logs_in : List ℕ → Logs
logs_in input = logs_to 4096 input
