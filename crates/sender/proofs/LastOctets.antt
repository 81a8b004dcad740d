-- Laws of writing octets: a number's last octets are among its eight, and the low ones are those of its remainder.
-- Assumes nothing.
use Rattle.std.proofs.Common.{◌≡◌, ℕ, zero, suc, ◌+◌, ◌-◌, ◌/◌, ◌%◌, ◌^◌, ◌≤◌, List, [], ◌∷◌, ◌++◌, length, take, drop, refl, ap, ap₂, ◌∙◌, arith}
use lib.Seq.{take_all}
use borrow.Rule.Slice.PartMut.{put_mid}
use Rattle.std.specs.Int.{bytes_high_first}
use Rattle.std.proofs.lemmas.Slice.{put_mid-paste}
use Rattle.runs.specs.Runs.{octets_of}
use Rattle.runs.proofs.Laws.{length_octets}

pub high_first : (width number : ℕ) → bytes_high_first width number ≡ octets_of width number
unfolding octets_of
high_first zero number = refl
high_first (suc zero) number =
    ap (λ (octet : ℕ). octet ∷ []) (let same : number % 256 ≡ number / 1 % 256 = omega arith in same)
high_first (suc (suc width)) number = ap (λ (l : List ℕ). number / 256 ^ suc width % 256 ∷ l) (high_first (suc width) number)

pub last_of_eight : (width number : ℕ) → width ≤ 6
    → take (8 - (8 - width)) (drop (8 - width) (bytes_high_first 8 number)) ≡ octets_of width number
unfolding octets_of
last_of_eight zero number few = refl
last_of_eight (suc zero) number few = high_first 1 number
last_of_eight (suc (suc zero)) number few = high_first 2 number
last_of_eight (suc (suc (suc zero))) number few = high_first 3 number
last_of_eight (suc (suc (suc (suc zero)))) number few = high_first 4 number
last_of_eight (suc (suc (suc (suc (suc zero))))) number few = high_first 5 number
last_of_eight (suc (suc (suc (suc (suc (suc zero)))))) number few = high_first 6 number
last_of_eight (suc (suc (suc (suc (suc (suc (suc width))))))) number few = absurd (omega arith)

pub two_of : (number : ℕ) → bytes_high_first 2 (number % 65536) ≡ octets_of 2 number
two_of number =
    ap₂ (λ (a b : ℕ). a ∷ b ∷ [])
    (let high : number % 65536 / 256 % 256 ≡ number / 256 % 256 = omega arith in high)
    (let low : number % 65536 % 256 ≡ number % 256 = omega arith in low)
    ∙ high_first 2 number

pub four_of : (number : ℕ) → bytes_high_first 4 (number % 4294967296) ≡ octets_of 4 number
four_of number =
    ap₂ (λ (a b : ℕ). a ∷ b ∷ number % 4294967296 / 256 % 256 ∷ number % 4294967296 % 256 ∷ [])
    (let highest : number % 4294967296 / 16777216 % 256 ≡ number / 16777216 % 256 = omega arith in highest)
    (let second : number % 4294967296 / 65536 % 256 ≡ number / 65536 % 256 = omega arith in second)
    ∙ ap₂ (λ (a b : ℕ). number / 16777216 % 256 ∷ number / 65536 % 256 ∷ a ∷ b ∷ [])
    (let third : number % 4294967296 / 256 % 256 ≡ number / 256 % 256 = omega arith in third)
    (let last : number % 4294967296 % 256 ≡ number % 256 = omega arith in last)
    ∙ high_first 4 number

-- octets copied over a part of a cell, and the rest of the cell as it was
pub put_stored : (cell : List ℕ) (at width number : ℕ) {part : List ℕ} → part ≡ octets_of width number
    → put_mid at (at + width - at) cell part ≡ take at cell ++ octets_of width number ++ drop (at + width) cell
put_stored cell at width number {part} e =
    let octets = octets_of width number in
    let count : length octets ≡ width = length_octets width number in
    put_mid-paste at (at + width - at) cell part octets (length octets) e (omega (arith, count)) refl
    ∙ ap₂ (λ (l : List ℕ) (n : ℕ). take at cell ++ l ++ drop (at + n) cell) (take_all (length octets) octets (omega arith)) count
