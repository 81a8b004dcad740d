-- The rules of the paper's first paragraph and the rows of the table say the same of every number.
-- Assumes nothing.
use mathlib.Core.Bool.{beq}
use mathlib.Core.List.{List, [], ◌∷◌}
use mathlib.Core.Path.{◌≡◌, refl, sym}
use Prim.Native.Nat.{ℕ, ◌<◌, ◌≤◌}
use native.Mathlib.Omega.{arith}
use borrow.Author.Tests.{le-ltb, ltb-true, ltb-false}
use lib.Dec.{ltb}
use Rattle.runs.specs.Test.{every}
use Rattle.runs.proofs.Laws.{every_at, split}
use Rattle.formats.specs.Formats.{
  length_of,
  sample_bits,
  ancillary_bits,
  overhead_bits,
  is_among,
  is_valid,
  width_of,
  slots_of,
  FormatRow,
  row,
  listed_formats,
  listed_octets,
  is_listed,
}
use Rattle.formats.proofs.Laws.{beq_eq, beyond}

-- a row of an octet by the rules
abbrev ruled_rows : List ℕ → List FormatRow
ruled_rows [] = []
ruled_rows (octet ∷ octets) =
    row octet (ancillary_bits octet) (overhead_bits octet) (sample_bits octet) (slots_of octet) ∷ ruled_rows octets

-- each row has the bits and the slots that the rules give its octet
pub rows_by_the_rules : ruled_rows listed_octets ≡ listed_formats
unfolding listed_octets sample_bits length_of ancillary_bits overhead_bits width_of slots_of
rows_by_the_rules = refl

agree_low : {octet : ℕ} → octet < 256 → is_valid octet ≡ is_listed octet
unfolding is_valid is_listed is_among listed_octets sample_bits length_of ancillary_bits overhead_bits every
agree_low {octet} h =
    beq_eq (is_valid octet) (is_listed octet) (every_at (λ k. beq (is_valid k) (is_listed k)) 256 tt octet h)

agree_high : {octet : ℕ} → 256 ≤ octet → is_valid octet ≡ is_listed octet
unfolding is_valid
agree_high {octet} h =
    rw (le-ltb octet 256 h) (sym (beyond (omega arith)))

-- the octets that are valid by the rules are those of the table
pub rules_and_table : (octet : ℕ) → is_valid octet ≡ is_listed octet
rules_and_table octet =
    split (ltb octet 256) (λ t. agree_low (ltb-true octet 256 t)) (λ t. agree_high (ltb-false octet 256 t))
