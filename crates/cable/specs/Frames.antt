-- A frame of an AES3 cable, its first half first, and two entries of format 56 hex: import and export, request 1 of document 02.
-- Assumes nothing.
use Rattle.std.specs.Prelude.{Bool, cond, not, ◌&&◌, ◌||◌, List, [], ◌∷◌, ℕ, ◌/◌, ◌^◌, eqb, ltb, leb, get_or}
use Rattle.cable.specs.Slots.{sample_in, ancillary_in, parity_of, subframe_of}

-- what an import reports: the refusal, and the samples and ancillary numbers of the two halves
pub record Imported : Type 0 where
  pub refusal : ℕ
  pub samples : List ℕ
  pub ancillary : List ℕ

-- what an export reports: the refusal, and the preambles and subframes of the two halves
pub record Exported : Type 0 where
  pub refusal : ℕ
  pub preambles : List ℕ
  pub subframes : List ℕ

-- "The interface names the preamble as X, Y or Z": the letters' octets
abbrev pub preamble_x : ℕ
preamble_x = 0x58

abbrev pub preamble_y : ℕ
preamble_y = 0x59

abbrev pub preamble_z : ℕ
preamble_z = 0x5A

-- what stands in the first and in the second half
abbrev pub first : List ℕ → ℕ
first pair = get_or pair 0 0

abbrev pub second : List ℕ → ℕ
second pair = get_or pair 1 0

-- "X then Y or Z then Y"
unfoldable pub is_frame : ℕ → ℕ → Bool
is_frame one other = eqb other preamble_y && (eqb one preamble_x || eqb one preamble_z)

-- "Z and Y in the same frame begin a block for both channels": B of both halves
unfoldable pub begins_by : ℕ → ℕ
begins_by preamble = cond (eqb preamble preamble_z) 1 0

-- "on import 16 for preambles that aren't X then Y or Z then Y, then 17 for odd parity in either half"
unfoldable pub import_refusal : List ℕ → List ℕ → ℕ
import_refusal preambles subframes =
    cond (not (is_frame (first preambles) (second preambles))) 16
    (cond (eqb (parity_of (first subframes)) 1 || eqb (parity_of (second subframes)) 1) 17 0)

-- "the importer works frame by frame and sets B in both"
abbrev pub imported : List ℕ → List ℕ → Imported
imported preambles subframes =
    record {
      refusal = 0;
      samples = sample_in (first subframes) ∷ sample_in (second subframes) ∷ [];
      ancillary =
          ancillary_in (begins_by (first preambles)) (first subframes) ∷ ancillary_in (begins_by (first preambles)) (second subframes) ∷ [];
    }

-- document 01: "Every refusal returns its number .. with any other reported number 0"
abbrev pub not_imported : ℕ → Imported
not_imported refusal = record { refusal = refusal; samples = 0 ∷ 0 ∷ []; ancillary = 0 ∷ 0 ∷ [] }

unfoldable pub import_of : List ℕ → List ℕ → Imported
import_of preambles subframes =
    cond (eqb (import_refusal preambles subframes) 0) (imported preambles subframes) (not_imported (import_refusal preambles subframes))

-- 6 as in document 01: "a sample too large for its bits", which are 24; "ancillary above 15"
unfoldable pub is_too_large : ℕ → ℕ → Bool
is_too_large sample ancillary = leb (2 ^ 24) sample || ltb 15 ancillary

-- B of an ancillary number
abbrev pub b_of : ℕ → ℕ
b_of ancillary = ancillary / 8

-- "on export 6 as in 01, then 29 where the two B bits differ"
unfoldable pub export_refusal : List ℕ → List ℕ → ℕ
export_refusal samples ancillary =
    cond (is_too_large (first samples) (first ancillary) || is_too_large (second samples) (second ancillary)) 6
    (cond (not (eqb (b_of (first ancillary)) (b_of (second ancillary)))) 29 0)

-- the first half's preamble: Z where B is 1, else X
unfoldable pub preamble_of : ℕ → ℕ
preamble_of begins = cond (eqb begins 1) preamble_z preamble_x

abbrev pub exported : List ℕ → List ℕ → Exported
exported samples ancillary =
    record {
      refusal = 0;
      preambles = preamble_of (b_of (first ancillary)) ∷ preamble_y ∷ [];
      subframes = subframe_of (first samples) (first ancillary) ∷ subframe_of (second samples) (second ancillary) ∷ [];
    }

abbrev pub not_exported : ℕ → Exported
not_exported refusal = record { refusal = refusal; preambles = 0 ∷ 0 ∷ []; subframes = 0 ∷ 0 ∷ [] }

unfoldable pub export_of : List ℕ → List ℕ → Exported
export_of samples ancillary =
    cond (eqb (export_refusal samples ancillary) 0) (exported samples ancillary) (not_exported (export_refusal samples ancillary))
