-- The words of sample bits, computed for each format.
-- Assumes nothing.
use mathlib.Core.Bool.{Bool, true, false, true≢false, ◌&&◌, ◌||◌}
use mathlib.Core.List.{List, [], ◌∷◌}
use mathlib.Core.Path.{◌≡◌, refl, sym}
use Prim.Native.Nat.{ℕ}
use lib.Dec.{T, eqb, eqb→eq}
use types.Run.{OneOf}
use Rattle.runs.specs.Test.{every}
use Rattle.runs.proofs.Laws.{every_at, both_left, both_right, split}
use Rattle.formats.specs.Formats.{
  length_of,
  sample_bits,
  ancillary_bits,
  overhead_bits,
  listed_octets,
  is_among,
  is_listed,
  width_of,
  slots_of,
  format_of,
}
use Rattle.formats.proofs.Laws.{among_miss, listed_octet}
use Rattle.glance.specs.declared.Masks.{Masks}
use Rattle.glance.specs.Code.{low_at, packed, masks_of}

-- every definition on the way down to the numbers
unfoldable pub unfolded : Unit {0}
unfolding length_of sample_bits ancillary_bits overhead_bits listed_octets is_among is_listed width_of slots_of format_of low_at packed masks_of
unfolded = tt

-- all bits
abbrev ones : ℕ
ones = 0xFFFFFFFFFFFFFFFF

abbrev all_ones : Masks
all_ones = record { first = ones; second = ones; third = ones }

-- of any other octet, format or none, they are all bits
unfoldable is_ones : ℕ → Bool
is_ones octet = eqb (masks_of octet).first ones && (eqb (masks_of octet).second ones && eqb (masks_of octet).third ones)

is_ones_lem : (octet : ℕ) → T (is_ones octet) → all_ones ≡ masks_of octet
unfolding is_ones
is_ones_lem octet t =
    let a = eqb (masks_of octet).first ones in
    let b = eqb (masks_of octet).second ones in
    let c = eqb (masks_of octet).third ones in
    let first = both_left a (b && c) t in
    let second = both_left b c (both_right a (b && c) t) in
    let third = both_right b c (both_right a (b && c) t) in
    let one : (masks_of octet).first ≡ ones = eqb→eq (masks_of octet).first ones first in
    let two : (masks_of octet).second ≡ ones = eqb→eq (masks_of octet).second ones second in
    let three : (masks_of octet).third ≡ ones = eqb→eq (masks_of octet).third ones third in
    sym (λ i. record { first = one i; second = two i; third = three i })

passed : (a b : Bool) → a ≡ false → T (a || b) → T b
passed true b e t = absurd (true≢false e)
passed false b e t = t

-- an octet that is none of those in a list of lists
unfoldable pub NoneIn : List (List ℕ) → ℕ → Type 0
NoneIn [] octet = Unit {0}
NoneIn (keys ∷ rest) octet = NoneIn rest octet × (OneOf keys octet → ⊥)

unfoldable among : List (List ℕ) → ℕ → Bool
among [] octet = is_ones octet
among (keys ∷ rest) octet = is_among octet keys || among rest octet

none_among : (lists : List (List ℕ)) (octet : ℕ) → NoneIn lists octet → T (among lists octet) → T (is_ones octet)
unfolding NoneIn among
none_among [] octet none t = t
none_among (keys ∷ rest) octet none t =
    none_among rest octet none.0 (passed (is_among octet keys) (among rest octet) (among_miss keys octet none.1) t)

-- the octets with ancillary bits or overhead, the last first
abbrev fields : List (List ℕ)
fields =
    (0x5A ∷ []) ∷ (0x56 ∷ []) ∷ (0x54 ∷ []) ∷ (0x52 ∷ [])
    ∷ (0x17 ∷ 0x47 ∷ []) ∷ (0x15 ∷ 0x45 ∷ []) ∷ (0x13 ∷ 0x43 ∷ []) ∷ []

pub others : (octet : ℕ) → NoneIn fields octet → all_ones ≡ masks_of octet
unfolding every unfolded among is_ones
others octet none =
    split (is_listed octet)
    (λ t. is_ones_lem octet (none_among fields octet none (every_at (among fields) 256 tt octet (listed_octet octet t))))
    (λ t. rw t refl)
