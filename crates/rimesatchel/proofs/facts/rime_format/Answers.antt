-- `rimesatchel::facts::rime_format` meets its contract: it says what `formats::settings` settles with one channel in order 0.
-- Assumes nothing.
use mathlib.Core.Path.{◌≡◌, ◌∙◌, ap, subst, sym}
use native.Mathlib.Omega.{arith}
use Rattle.formats.specs.Settled.{Settled}
use Rattle.formats.specs.Formats.{format_of}
use Rattle.rimesatchel.specs.Facts.{format_numbers}
use Rattle.rimesatchel.proofs.FactsLaws.{Small, small_format, alone_refused, alone_format}
use Rattle.rimesatchel.proofs.facts.rime_format.Goals as goal
use Rattle.rimesatchel.proofs.facts.rime_format.Goals.{In-Ok}

module _ (c : In-Ok) where
  found : c.in-Ok.set.format ≡ format_of c.args.format
  found = ap (λ (s : Settled). s.format) c.in-Ok.ensures ∙ alone_format c.args.format

  small : Small c.in-Ok.set.format
  small = subst Small (sym found) (small_format c.args.format)

pub returns-in-Err : goal.returns-in-Err
returns-in-Err c = (
  c.into.ensures ∙ ap (λ (s : Settled). s.refusal) c.in-Err.ensures ∙ alone_refused c.args.format,
  ap (λ (s : Settled). format_numbers s.format) c.in-Err.ensures ∙ ap format_numbers (alone_format c.args.format),
)

pub overflow_cast-facts : goal.overflow_cast-facts
overflow_cast-facts c = omega (arith, (small (goal.at.overflow_cast-facts c).In-Ok).sample_to)

pub overflow_cast-facts-2 : goal.overflow_cast-facts-2
overflow_cast-facts-2 c = omega (arith, (small (goal.at.overflow_cast-facts-2 c).In-Ok).ancillary_to)

pub overflow_cast-facts-3 : goal.overflow_cast-facts-3
overflow_cast-facts-3 c = omega (arith, (small (goal.at.overflow_cast-facts-3 c).In-Ok).overhead_to)

pub overflow_cast-facts-4 : goal.overflow_cast-facts-4
overflow_cast-facts-4 c = omega (arith, (small (goal.at.overflow_cast-facts-4 c).In-Ok).slots_to)

pub returns : goal.returns
returns c = (
  ap (λ (s : Settled). s.refusal) c.in-Ok.ensures ∙ alone_refused c.args.format,
  ap format_numbers (found (goal.at.returns c).In-Ok),
)
