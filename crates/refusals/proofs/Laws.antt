-- Laws of the numbers of refusals: no refusal has the number 0, and no two have one number.
-- Assumes nothing.
use mathlib.Core.Bool.{cond}
use mathlib.Core.Path.{◌≡◌, refl, sym, ◌∙◌, ap}
use Prim.Native.Nat.{ℕ, ◌<◌}
use native.Mathlib.Omega.{arith}
use lib.Dec.{eqb}
use Rattle.refusals.specs.declared.Refusal.{Refusal}
use Rattle.refusals.specs.declared.Refusal.TheVariants as R
use Rattle.refusals.specs.Refusals.{number_of}

-- the refusal that a number is of
named : ℕ → Refusal
named n =
    cond (eqb n 1) R.Format (
    cond (eqb n 2) R.Channels (
    cond (eqb n 3) R.Order (
    cond (eqb n 4) R.State (
    cond (eqb n 5) R.Length (
    cond (eqb n 6) R.Sample (
    cond (eqb n 7) R.Indication (
    cond (eqb n 8) R.Number (
    cond (eqb n 9) R.Repeat (
    cond (eqb n 10) R.Room (
    cond (eqb n 11) R.LogNumber (
    cond (eqb n 12) R.LogRecord (
    cond (eqb n 13) R.LogLength (
    cond (eqb n 14) R.Status (
    cond (eqb n 15) R.Indicated (
    cond (eqb n 16) R.Preambles (
    cond (eqb n 17) R.Parity (
    cond (eqb n 18) R.Logs (
    cond (eqb n 19) R.Total (
    cond (eqb n 20) R.Count (
    cond (eqb n 21) R.Output (
    cond (eqb n 22) R.Plan (
    cond (eqb n 23) R.Frequency (
    cond (eqb n 26) R.Overhead (
    cond (eqb n 27) R.UnitSize (
    cond (eqb n 28) R.UnitRoom (
    cond (eqb n 29) R.Blocks (
    cond (eqb n 30) R.Circuits (
    R.Report))))))))))))))))))))))))))))

named_back : (refusal : Refusal) → named (number_of refusal) ≡ refusal
unfolding named number_of
named_back R.Format = refl
named_back R.Channels = refl
named_back R.Order = refl
named_back R.State = refl
named_back R.Length = refl
named_back R.Sample = refl
named_back R.Indication = refl
named_back R.Number = refl
named_back R.Repeat = refl
named_back R.Room = refl
named_back R.LogNumber = refl
named_back R.LogRecord = refl
named_back R.LogLength = refl
named_back R.Status = refl
named_back R.Indicated = refl
named_back R.Preambles = refl
named_back R.Parity = refl
named_back R.Logs = refl
named_back R.Total = refl
named_back R.Count = refl
named_back R.Output = refl
named_back R.Plan = refl
named_back R.Frequency = refl
named_back R.Overhead = refl
named_back R.UnitSize = refl
named_back R.UnitRoom = refl
named_back R.Blocks = refl
named_back R.Circuits = refl
named_back R.Report = refl

pub number_injective : {one other : Refusal} → number_of one ≡ number_of other → one ≡ other
number_injective {one} {other} same = sym (named_back one) ∙ ap named same ∙ named_back other

pub number_from : (refusal : Refusal) → 0 < number_of refusal
unfolding number_of
number_from R.Format = omega arith
number_from R.Channels = omega arith
number_from R.Order = omega arith
number_from R.State = omega arith
number_from R.Length = omega arith
number_from R.Sample = omega arith
number_from R.Indication = omega arith
number_from R.Number = omega arith
number_from R.Repeat = omega arith
number_from R.Room = omega arith
number_from R.LogNumber = omega arith
number_from R.LogRecord = omega arith
number_from R.LogLength = omega arith
number_from R.Status = omega arith
number_from R.Indicated = omega arith
number_from R.Preambles = omega arith
number_from R.Parity = omega arith
number_from R.Logs = omega arith
number_from R.Total = omega arith
number_from R.Count = omega arith
number_from R.Output = omega arith
number_from R.Plan = omega arith
number_from R.Frequency = omega arith
number_from R.Overhead = omega arith
number_from R.UnitSize = omega arith
number_from R.UnitRoom = omega arith
number_from R.Blocks = omega arith
number_from R.Circuits = omega arith
number_from R.Report = omega arith

pub number_not_0 : (refusal : Refusal) → number_of refusal ≡ 0 → ⊥
number_not_0 refusal is = omega (arith, number_from refusal, is)
