-- What the data units' promises leave in the memory lent for the answer.
-- Assumes nothing.
use mathlib.Core.List.{List}
use mathlib.Core.Path.{ap, subst}
use Prim.Native.Nat.{ℕ}
use Rattle.units.specs.declared.Exported.{Exported}
use Rattle.units.specs.declared.Entered.{Entered}
use Rattle.units.specs.Units.{Exports, Reads}
use Rattle.rimesatchel.specs.Network.{unit_numbers, ExportedUnits, ReadUnit}

pub exported_units : (format channels size : ℕ) (samples ancillary out : List ℕ) {answer : Exported} {out₁ : List ℕ}
    → Exports format channels size samples ancillary out answer out₁
    → ExportedUnits format channels size samples ancillary out answer.refusal out₁ (unit_numbers answer)
exported_units format channels size samples ancillary out {answer} {out₁} did =
    record {
      refused = ap (λ (x : Exported). x.refusal) did.answered;
      tells = ap unit_numbers did.answered;
      writes = subst (λ (x : Exported). Exports format channels size samples ancillary out x out₁) did.answered did;
    }

pub read_unit : (format channels : ℕ) (unit samples ancillary : List ℕ) {answer : Entered} {samples₁ ancillary₁ : List ℕ}
    → Reads format channels unit samples ancillary answer samples₁ ancillary₁
    → ReadUnit format channels unit samples ancillary answer.refusal samples₁ ancillary₁ answer.entries
read_unit format channels unit samples ancillary {answer} {samples₁} {ancillary₁} did =
    record {
      refused = ap (λ (x : Entered). x.refusal) did.answered;
      tells = ap (λ (x : Entered). x.entries) did.answered;
      reads = subst (λ (x : Entered). Reads format channels unit samples ancillary x samples₁ ancillary₁) did.answered did;
    }
