-- What the check unfolds in functions: definitions that belong together, by one name.
-- Assumes nothing.
use Rattle.refusals.specs.Refusals.{number_of, refused_by}
use Rattle.slips.specs.Watch.{
  is_too_large,
  some_set,
  unlike,
  watch_refused,
  report_refused,
  step_refusal,
  may_after,
  agrees_with,
  slipped,
  sure_step,
  new_step,
  taken_step,
}

-- whether a watch can be
unfoldable pub watches : Unit {0}
unfolding watch_refused is_too_large some_set unlike
watches = tt

-- the refusals of a step and their numbers
unfoldable pub refusals : Unit {0}
unfolding step_refusal report_refused refused_by number_of
refusals = tt

-- a step that isn't refused
unfoldable pub steps : Unit {0}
unfolding taken_step new_step agrees_with
steps = tt

-- a step of a watch that is sure
unfoldable pub sure_steps : Unit {0}
unfolding sure_step agrees_with slipped may_after
sure_steps = tt
