-- No two answers are reported alike.
-- Assumes nothing.
use mathlib.Core.Path.{◌≡◌, refl, sym, ◌∙◌, ap}
use Rattle.std.proofs.Common.{Result, Ok, Err}
use Rattle.refusals.specs.declared.Refusal.{Refusal}
use Rattle.refusals.specs.Refusals.{refused_by}
use Rattle.refusals.proofs.Laws.{number_injective, number_not_0}
use Rattle.circuits.specs.declared.Verdict as Code
use Rattle.circuits.specs.declared.Verdict.TheVariants as V
use Rattle.circuits.specs.Circuits.{Verdict, Refused, Yes, Share, Allowance, Sum, refusal_of}
use Rattle.circuits.specs.Answered.{verdict_of, check_answered}

back : Verdict → Code.Verdict
back (Refused n) = V.Yes
back Yes = V.Yes
back (Share k) = V.Share k
back (Allowance k) = V.Allowance k
back Sum = V.Sum

verdict_back : (v : Code.Verdict) → back (verdict_of v) ≡ v
unfolding back
verdict_back V.Yes = refl
verdict_back (V.Share k) = refl
verdict_back (V.Allowance k) = refl
verdict_back V.Sum = refl

not_refused : (v : Code.Verdict) → refusal_of (verdict_of v) ≡ 0
not_refused V.Yes = refl
not_refused (V.Share k) = refl
not_refused (V.Allowance k) = refl
not_refused V.Sum = refl

pub check_injective : (x y : Result Code.Verdict Refusal) → check_answered x ≡ check_answered y → x ≡ y
check_injective (Ok v) (Ok w) same = ap Ok (sym (verdict_back v) ∙ ap back same ∙ verdict_back w)
check_injective (Ok v) (Err e) same = absurd (number_not_0 e (sym (ap refusal_of same) ∙ not_refused v))
check_injective (Err e) (Ok v) same = absurd (number_not_0 e (ap refusal_of same ∙ not_refused v))
check_injective (Err e) (Err f) same = ap Err (number_injective (ap refusal_of same))

pub refused_injective : (x y : Result (Unit {0}) Refusal) → refused_by x ≡ refused_by y → x ≡ y
unfolding refused_by
refused_injective (Ok _) (Ok _) same = refl
refused_injective (Ok _) (Err e) same = absurd (number_not_0 e (sym same))
refused_injective (Err e) (Ok _) same = absurd (number_not_0 e same)
refused_injective (Err e) (Err f) same = ap Err (number_injective same)
