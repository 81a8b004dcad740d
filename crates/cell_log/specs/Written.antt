-- What writing into a lent log answers and leaves. "Nothing lent is written" where it is refused.
-- Assumes nothing.
use Rattle.std.specs.Prelude.{Bool, cond, List, ◌∷◌, ◌++◌, ◌≡◌, ℕ, ◌+◌, eqb, ltb, length}
use Rattle.cell_log.specs.Answers.{Kept}
use Rattle.runs.specs.Refusals.{or_else}
use Rattle.runs.specs.Runs.{written}
use Rattle.formats.specs.Formats.{settings_refusal}
use Rattle.cell_log.specs.Numbers.{groups_of}

abbrev pub kept : ℕ → Kept
kept next = record { refusal = 0; next = next }

abbrev pub not_kept : ℕ → Kept
not_kept refusal = record { refusal = refusal; next = 0 }

-- octets written at a place of a lent log: the answer, and what the log holds afterwards
pub record Keeps (refusal place : ℕ) (octets log : List ℕ) (answer : Kept) (after : List ℕ) : Type 0 where
  pub answered : answer ≡ cond (eqb refusal 0) (kept (place + length octets)) (not_kept refusal)
  pub left : after ≡ cond (eqb refusal 0) (written log place octets) log

-- 11: "over three groups or cut"
unfoldable pub number_refusal : List ℕ → ℕ → ℕ → ℕ
number_refusal log place n = cond (ltb 2097151 n) 11 (cond (ltb (length log) (place + length (groups_of 3 n))) 11 0)

-- "First three numbers: subframe octet, C, order"
abbrev pub header_octets : ℕ → ℕ → ℕ → List ℕ
header_octets format channels order = groups_of 3 format ++ groups_of 3 channels ++ groups_of 3 order

-- 1 to 3, then 11 where the header is "cut"
unfoldable pub header_refused_of : List ℕ → ℕ → ℕ → ℕ → ℕ
header_refused_of log format channels order =
    or_else (settings_refusal format channels order) (cond (ltb (length log) (length (header_octets format channels order))) 11 0)

-- "the indication, 0 or 1, and 48 octets"
abbrev pub octet_of : Bool → ℕ
octet_of indication = cond indication 1 0

abbrev pub record_octets : Bool → List ℕ → List ℕ
record_octets indication cell = octet_of indication ∷ cell

-- 5: "a cell not of 48 octets"; 12: "a record cut before its 48 octets end"
unfoldable pub record_refusal : List ℕ → ℕ → List ℕ → ℕ
record_refusal log place cell = cond (eqb (length cell) 48) (cond (ltb (length log) (place + 49)) 12 0) 5
