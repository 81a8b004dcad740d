-- No two answers are reported alike.
-- Assumes nothing.
use mathlib.Core.Path.{◌≡◌, sym, ap}
use Rattle.std.proofs.Common.{Result, Ok, Err}
use Rattle.refusals.specs.declared.Refusal.{Refusal}
use Rattle.refusals.proofs.Laws.{number_injective, number_not_0}
use Rattle.cable.specs.declared.Frame.{Frame}
use Rattle.cable.specs.declared.Entries.{Entries}
use Rattle.cable.specs.Frames.{Imported, Exported}
use Rattle.cable.specs.Answered.{import_answered, export_answered}

pub import_injective : (x y : Result Entries Refusal) → import_answered x ≡ import_answered y → x ≡ y
import_injective (Ok a) (Ok b) same =
    λ i. Ok (record { samples = ap (λ (r : Imported). r.samples) same i; ancillary = ap (λ (r : Imported). r.ancillary) same i })
import_injective (Ok a) (Err e) same = absurd (number_not_0 e (sym (ap (λ (r : Imported). r.refusal) same)))
import_injective (Err e) (Ok a) same = absurd (number_not_0 e (ap (λ (r : Imported). r.refusal) same))
import_injective (Err e) (Err f) same = ap Err (number_injective (ap (λ (r : Imported). r.refusal) same))

pub export_injective : (x y : Result Frame Refusal) → export_answered x ≡ export_answered y → x ≡ y
export_injective (Ok a) (Ok b) same =
    λ i. Ok (record { preambles = ap (λ (r : Exported). r.preambles) same i; subframes = ap (λ (r : Exported). r.subframes) same i })
export_injective (Ok a) (Err e) same = absurd (number_not_0 e (sym (ap (λ (r : Exported). r.refusal) same)))
export_injective (Err e) (Ok a) same = absurd (number_not_0 e (ap (λ (r : Exported). r.refusal) same))
export_injective (Err e) (Err f) same = ap Err (number_injective (ap (λ (r : Exported). r.refusal) same))
