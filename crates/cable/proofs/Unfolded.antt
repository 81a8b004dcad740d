-- What the check unfolds in functions: definitions that belong together, by one name.
-- Assumes nothing.
use Rattle.refusals.specs.Refusals.{number_of, refused_by}
use Rattle.cable.specs.Frames.{import_refusal, export_refusal}

-- the refusals and their numbers
unfoldable pub refusals : Unit {0}
unfolding import_refusal export_refusal refused_by number_of
refusals = tt
