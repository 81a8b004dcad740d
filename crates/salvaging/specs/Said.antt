-- What `salvage` writes of a log, request 9: the new log, and the lines beside it.
-- Assumes nothing.
use Rattle.std.specs.Prelude.{ℕ, cond, List, [], ◌∷◌, ◌++◌, ◌==◌}
use Rattle.cell_log.specs.Records.{header_of}
use Rattle.reading.specs.Heard.{sound_in}
use Rattle.reading.specs.Reading.{reading_of}
use Rattle.saving.specs.Salvage.{new_log, list_of, left_out_of, cut_from}
use Rattle.listing.specs.Lines.{refused_line, log_refused_line}
use Rattle.salvaging.specs.Lines.{end_line}

-- the new log, and nothing where the header is refused
unfoldable pub saved_of : List ℕ → List ℕ
saved_of log = cond ((header_of log).refusal == 0) (new_log log) []

-- a line for each two numbers of the list: the record left out, and its refusal
unfoldable pub lines_of : List ℕ → List ℕ
lines_of [] = []
lines_of (index ∷ []) = []
lines_of (index ∷ refusal ∷ list) = refused_line index refusal ++ lines_of list

-- "a list of the whole records left out", and the counts: records kept, records left out, octets cut; or the header's refusal alone
unfoldable pub notes_of : List ℕ → List ℕ
notes_of log =
    cond ((header_of log).refusal == 0)
    (lines_of (list_of log) ++ end_line (sound_in (reading_of log).heard) (left_out_of log) (cut_from log))
    (log_refused_line (header_of log).refusal)
