-- Words of a program's command line.
-- Assumes nothing.
use Rattle.std.specs.Prelude.{cond, List, ℕ, eqb, length, get_or}

-- "`-` is standard input too; any other word that begins with `-` .. gets a line of usage": 45 is `-`
unfoldable pub kind_of : List ℕ → ℕ
kind_of word = cond (eqb (length word) 0) 1 (cond (eqb (get_or word 0 0) 45) (cond (eqb (length word) 1) 2 3) 1)
