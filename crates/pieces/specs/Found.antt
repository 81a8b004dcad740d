-- What is found at a place of a piece, with a number for its kind, and the code's word for it.
-- Assumes nothing.
use Rattle.std.specs.Prelude.{ℕ}
use Rattle.pieces.specs.declared.Found as code
use Rattle.pieces.specs.declared.Standing.{Standing}
use Rattle.pieces.specs.declared.What.{What}
use Rattle.pieces.specs.declared.What.TheVariants as kind

-- What was found: 0 nothing that is whole; 1 the header, which is the first three octets held; 2 a record in the piece, at this place;
-- 3 a record, which is the octets held; 4 a fault. Then the place to go on at, and the standing.
pub record Found : Type 0 where
  pub what : ℕ
  pub next : ℕ
  pub standing : Standing

abbrev pub number_of : What → ℕ
number_of kind.Nothing = 0
number_of kind.Header = 1
number_of kind.InPiece = 2
number_of kind.Held = 3
number_of kind.Fault = 4

abbrev pub numbered : code.Found → Found
numbered found = record { what = number_of found.what; next = found.next; standing = found.standing }
