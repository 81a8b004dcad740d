-- The octets of a text, one for each letter.
-- Assumes nothing.
use mathlib.Core.List as List
use Prim.Native.Char.{code}
use Rattle.std.specs.Prelude.{ℕ}
use Prim.Native.String.{String, [], ◌∷◌}

abbrev pub words : String → List.List ℕ
words [] = List.[]
words (letter ∷ letters) = List.◌∷◌ (code letter) (words letters)
