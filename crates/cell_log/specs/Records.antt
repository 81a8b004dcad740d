-- The header and the records, document 01, "The log".
-- Assumes nothing.
use Rattle.std.specs.Prelude.{cond, false, List, ℕ, ◌+◌, ◌*◌, eqb, leb, ltb, length, get_or, take, drop}
use Rattle.runs.specs.Refusals.{or_else}
use Rattle.formats.specs.Formats.{settings_refusal}
use Rattle.cell_log.specs.Answers.{Number, Header, Record}
use Rattle.cell_log.specs.Numbers.{number_at}

abbrev pub no_header : ℕ → Header
no_header refusal = record { refusal = refusal; place = 0; format = 0; channels = 0; order = 0 }

-- "First three numbers: subframe octet, C, order", and "11 as met, then 1 to 3"
unfoldable pub header_refusal : Number → Number → Number → ℕ
header_refusal format channels order =
    or_else format.refusal
    (or_else channels.refusal (or_else order.refusal (settings_refusal format.value channels.value order.value)))

unfoldable pub header_of_numbers : Number → Number → Number → Header
header_of_numbers format channels order =
    cond (eqb (header_refusal format channels order) 0)
    (record { refusal = 0; place = order.next; format = format.value; channels = channels.value; order = order.value })
    (no_header (header_refusal format channels order))

-- each number stands where the one before it ends
abbrev pub second_number : List ℕ → Number
second_number log = number_at log (number_at log 0).next

abbrev pub third_number : List ℕ → Number
third_number log = number_at log (second_number log).next

unfoldable pub header_of : List ℕ → Header
header_of log = header_of_numbers (number_at log 0) (second_number log) (third_number log)

-- "A place at the log's end or past it answers the end"
abbrev pub end_at : ℕ → Record
end_at place = record { refusal = 0; what = 0; indication = false; start = 0; next = place }

abbrev pub no_record : ℕ → Record
no_record refusal = record { refusal = refusal; what = 0; indication = false; start = 0; next = 0 }

-- "per cell: the indication, 0 or 1, and 48 octets": 11 for "an indication above 1", 12 for "a record cut before its 48 octets end"
unfoldable pub record_at : List ℕ → ℕ → Record
record_at log place =
    cond (leb (length log) place) (end_at place)
    (cond (ltb 1 (get_or log place 0)) (no_record 11)
    (cond (ltb (length log) (place + 49)) (no_record 12)
    (record { refusal = 0; what = 1; indication = eqb (get_or log place 0) 1; start = place + 1; next = place + 49 })))

-- where a reader stands after a record: past a cell, and else where it stood
unfoldable pub place_after : List ℕ → ℕ → ℕ
place_after log place = cond (eqb (record_at log place).what 1) (record_at log place).next place

-- "it hands each cell back as that part of the log itself": 48 octets from where the cell starts, none where no cell is there
unfoldable pub cell_at : List ℕ → ℕ → List ℕ
cell_at log place = take ((record_at log place).what * 48) (drop (record_at log place).start log)
