-- The list of a log, document 01, "The log", and request 14: a line for the format, a line for each record, and the end line.
-- Assumes nothing.
use Rattle.std.specs.Prelude.{ℕ, ◌+◌, ◌-◌, cond, List, [], ◌∷◌, ◌++◌, length, ◌==◌}
use Rattle.cell_log.specs.Records.{header_of}
use Rattle.receiver.specs.declared.Received.{Received}
use Rattle.reading.specs.Heard.{Heard, heard_from, sound_in, missing_in, refused_in}
use Rattle.reading.specs.Reading.{fresh_of, behind_header}
use Rattle.pieces.specs.Limit.{records_to, fault_to}
use Rattle.listing.specs.Lines.{format_line, sound_line, refused_line, broken_line, end_line, log_refused_line}

-- a record's line: what the receiver took is sound, with the count of missing cells before it
unfoldable pub line_of : ℕ → Received → List ℕ
line_of index got =
    cond (got.refusal == 0)
    (sound_line index got.missing got.number)
    (refused_line index got.refusal)

-- a line for each record, numbered from here on
unfoldable pub lines_of : ℕ → List Heard → List ℕ
lines_of index [] = []
lines_of index (h ∷ hs) = line_of index h.answer ++ lines_of (index + 1) hs

-- "A framing fault after the header prints `k broken r`, then the end line, and isn't counted as refused". The counts are counts over
-- the records.
unfoldable pub end_lines : List Heard → ℕ → List ℕ
end_lines heard fault =
    cond (fault == 0)
    (end_line (sound_in heard) (missing_in heard) (refused_in heard))
    (broken_line (length heard) fault ++ end_line (sound_in heard) (missing_in heard) (refused_in heard))

-- what a fresh receiver makes of the whole records within the limit, which counts the header's three octets too
abbrev pub heard_to : ℕ → List ℕ → List Heard
heard_to limit log = heard_from (fresh_of (header_of log)) (records_to (limit - 3) (behind_header log))

-- the list of a log that may have so many octets: "A fault in the header .. prints only `log refused r`"; 13 "stands in the list as
-- `k broken 13` when an octet past it is met in record k"
unfoldable pub list_to : ℕ → List ℕ → List ℕ
list_to limit log =
    cond ((header_of log).refusal == 0)
    (format_line (header_of log).format (header_of log).channels (header_of log).order
    ++ (lines_of 0 (heard_to limit log) ++ end_lines (heard_to limit log) (fault_to (limit - 3) (behind_header log))))
    (log_refused_line (header_of log).refusal)

-- "a log of up to 4,294,967,295 octets"
abbrev pub list_of : List ℕ → List ℕ
list_of log = list_to 4294967295 log
