-- What the data units' calls write into the memory lent to them, in the order of the face's table.
-- Assumes nothing.
use Rattle.std.specs.Prelude.{List, [], ◌∷◌, ◌≡◌, ℕ, length}
use Rattle.units.specs.declared.Exported.{Exported}
use Rattle.units.specs.declared.Entered.{Entered}
use Rattle.units.specs.Units.{exported_of, Exports, entered_of, Reads}

-- "octets written, octets of a full unit, how many units"
abbrev pub unit_numbers : Exported → List ℕ
unit_numbers x = x.octets ∷ x.full ∷ x.units ∷ []

abbrev pub exported_here : ℕ → ℕ → ℕ → List ℕ → List ℕ → List ℕ → Exported
exported_here format channels size samples ancillary out = exported_of format channels size samples ancillary (length out)

pub record ExportedUnits (format channels size : ℕ) (samples ancillary out : List ℕ) (refusal : ℕ) (out₁ told : List ℕ) : Type 0 where
  pub refused : refusal ≡ (exported_here format channels size samples ancillary out).refusal
  pub tells : told ≡ unit_numbers (exported_here format channels size samples ancillary out)
  pub writes : Exports format channels size samples ancillary out (exported_here format channels size samples ancillary out) out₁

abbrev pub entered_here : ℕ → ℕ → List ℕ → List ℕ → List ℕ → Entered
entered_here format channels unit samples ancillary = entered_of format channels (length unit) (length samples) (length ancillary)

pub record ReadUnit (format channels : ℕ) (unit samples ancillary : List ℕ) (refusal : ℕ) (samples₁ ancillary₁ : List ℕ) (entries : ℕ) : Type 0 where
  pub refused : refusal ≡ (entered_here format channels unit samples ancillary).refusal
  pub tells : entries ≡ (entered_here format channels unit samples ancillary).entries
  pub reads : Reads format channels unit samples ancillary (entered_here format channels unit samples ancillary) samples₁ ancillary₁
