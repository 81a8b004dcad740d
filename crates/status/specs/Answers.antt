-- What the calls answer, as the papers tell it: a refusal's number, and what goes out.
-- Assumes nothing.
use Rattle.std.specs.Prelude.{ℕ, Option, Some, None, Result, Ok, Err}
use Rattle.refusals.specs.declared.Refusal.{Refusal}
use Rattle.refusals.specs.Refusals.{number_of}
use Rattle.status.specs.Bits.{zeros}
use Rattle.status.specs.Run.{Ran, ran_not}
use Rattle.status.specs.Step.{Handed, Stepped, unfinished}
use Rattle.status.specs.declared.run.Ran as ran
use Rattle.status.specs.declared.step.Block.{Block}
use Rattle.status.specs.declared.step.Finished.{Finished}
use Rattle.status.specs.declared.step.Fit.{Fit}
use Rattle.status.specs.declared.step.Fit.TheVariants as F
use Rattle.status.specs.declared.step.Stepped as step

-- "3 is none carried, 2 fits, 1 doesn't fit"
unfoldable pub number_of_fit : Fit → ℕ
number_of_fit F.Differs = 1
number_of_fit F.Fits = 2
number_of_fit F.NoneCarried = 3

-- "unless one is finished, 24 zeros go out with neither yes nor no"
abbrev pub answered_handed : Result (Option Finished) Refusal → Handed
answered_handed (Ok (Some finished)) = record { refusal = 0; answer = number_of_fit finished.fit; octets = finished.octets }
answered_handed (Ok None) = record { refusal = 0; answer = 0; octets = zeros }
answered_handed (Err refusal) = record { refusal = number_of refusal; answer = 0; octets = zeros }

-- the block is as it was where the step is refused
abbrev pub answered_step : Block → Result step.Stepped Refusal → Stepped
answered_step block (Ok s) = record { block = s.block; handed = answered_handed (Ok s.handed) }
answered_step block (Err refusal) = unfinished (number_of refusal) block

abbrev pub answered_run : Block → Result ran.Ran Refusal → Ran
answered_run block (Ok r) = record { stepped = answered_step block (Ok r.stepped); next = r.next }
answered_run block (Err refusal) = ran_not (number_of refusal) block
