-- What the code answers of a log, in the records of the document.
-- Assumes nothing.
use Rattle.std.specs.Prelude.{Option, Some, None, Result, Ok, Err, ℕ}
use Rattle.refusals.specs.declared.Refusal.{Refusal}
use Rattle.refusals.specs.Refusals.{number_of}
use Rattle.cell_log.specs.declared.Number.{Number as ReadNumber}
use Rattle.cell_log.specs.declared.Header.{Header as ReadHeader}
use Rattle.cell_log.specs.declared.Record.{Record as ReadRecord}
use Rattle.cell_log.specs.Answers.{Number, Header, Record, Kept}
use Rattle.cell_log.specs.Numbers.{number}
use Rattle.cell_log.specs.Records.{no_header, no_record, end_at}
use Rattle.cell_log.specs.Written.{kept, not_kept}

-- the code's answer
abbrev pub number_answered : Result ReadNumber Refusal → Number
number_answered (Ok read) = number read.value read.next
number_answered (Err refusal) = record { refusal = number_of refusal; value = 0; next = 0 }

-- the code's answer
abbrev pub header_answered : Result ReadHeader Refusal → Header
header_answered (Ok read) =
    record { refusal = 0; place = read.place; format = read.format; channels = read.channels; order = read.order }
header_answered (Err refusal) = no_header (number_of refusal)

-- the code's answer at a place
abbrev pub record_answered : ℕ → Result (Option ReadRecord) Refusal → Record
record_answered place (Ok None) = end_at place
record_answered place (Ok (Some read)) =
    record { refusal = 0; what = 1; indication = read.indication; start = read.start; next = read.next }
record_answered place (Err refusal) = no_record (number_of refusal)

-- the code's answer
abbrev pub kept_answered : Result ℕ Refusal → Kept
kept_answered (Ok next) = kept next
kept_answered (Err refusal) = not_kept (number_of refusal)
