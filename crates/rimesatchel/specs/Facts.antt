-- A format's facts as numbers in a lent array, in the order of the face's table, and their refusal.
-- Assumes nothing.
use Rattle.std.specs.Prelude.{cond, List, [], ◌∷◌, ℕ}
use Rattle.formats.specs.Formats.{is_listed}
use Rattle.formats.specs.declared.Format.{Format}

-- `facts`: sample bits, ancillary bits, overhead bits, slots; the zeros of no format where it is refused
abbrev pub format_numbers : Format → List ℕ
format_numbers f = f.sample_bits ∷ f.ancillary_bits ∷ f.overhead_bits ∷ f.slots ∷ []

-- refusal 1: "an octet that is none of the fourteen"
abbrev pub format_refusal : ℕ → ℕ
format_refusal octet = cond (is_listed octet) 0 1
