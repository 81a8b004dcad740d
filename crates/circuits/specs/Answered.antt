-- What the code answers of a plan, in the request's verdicts.
-- Assumes nothing.
use Rattle.std.specs.Prelude.{Result, Ok, Err}
use Rattle.refusals.specs.declared.Refusal.{Refusal}
use Rattle.refusals.specs.Refusals.{number_of}
use Rattle.circuits.specs.declared.Verdict as Code
use Rattle.circuits.specs.declared.Verdict.TheVariants as V
use Rattle.circuits.specs.Circuits.{Verdict, Refused, Yes, Share, Allowance, Sum}

-- the code's verdict, and its answer
abbrev pub verdict_of : Code.Verdict → Verdict
verdict_of V.Yes = Yes
verdict_of (V.Share k) = Share k
verdict_of (V.Allowance k) = Allowance k
verdict_of V.Sum = Sum

abbrev pub check_answered : Result Code.Verdict Refusal → Verdict
check_answered (Ok verdict) = verdict_of verdict
check_answered (Err refusal) = Refused (number_of refusal)
