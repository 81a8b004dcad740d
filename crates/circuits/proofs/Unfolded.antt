-- What the check unfolds in functions: definitions that belong together, by one name.
-- Assumes nothing.
use Rattle.runs.specs.Refusals.{or_else}
use Rattle.refusals.specs.Refusals.{number_of, refused_by}
use Rattle.circuits.specs.Circuits.{check_refusal, plan_refusal}

-- the refusals and their numbers
unfoldable pub refusals : Unit {0}
unfolding check_refusal plan_refusal or_else refused_by number_of
refusals = tt
