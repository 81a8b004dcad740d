-- What the code answers of a frame, in the request's records.
-- Assumes nothing.
use Rattle.std.specs.Prelude.{Result, Ok, Err}
use Rattle.refusals.specs.declared.Refusal.{Refusal}
use Rattle.refusals.specs.Refusals.{number_of}
use Rattle.cable.specs.declared.Frame.{Frame}
use Rattle.cable.specs.declared.Entries.{Entries}
use Rattle.cable.specs.Frames.{Imported, Exported, not_imported, not_exported}

-- the answer of an import as the paper reports it
abbrev pub import_answered : Result Entries Refusal → Imported
import_answered (Ok entries) = record { refusal = 0; samples = entries.samples; ancillary = entries.ancillary }
import_answered (Err refusal) = not_imported (number_of refusal)

-- the answer of an export as the paper reports it
abbrev pub export_answered : Result Frame Refusal → Exported
export_answered (Ok frame) = record { refusal = 0; preambles = frame.preambles; subframes = frame.subframes }
export_answered (Err refusal) = not_exported (number_of refusal)
