-- Words that only the code of the log needs.
-- Assumes nothing.
use Rattle.std.specs.Prelude.{cond, List, ℕ, zero, suc, ◌+◌, ◌*◌, ◌%◌, eqb, leb, ltb, length, get_or}
use Rattle.cell_log.specs.Answers.{Number}
use Rattle.cell_log.specs.Numbers.{number, no_number_of}

-- a group and the number that the groups behind it hold, which is 0 where it was refused itself, and where its last group is 0, so
-- that the form is not the shortest
unfoldable pub behind : ℕ → Number → Number
behind group more = cond (eqb more.value 0) no_number_of (number (group % 128 + more.value * 128) more.next)

-- the number at a place, read in at most so many groups, one after the other
unfoldable pub number_within : ℕ → List ℕ → ℕ → Number
number_within zero log at = no_number_of
number_within (suc groups) log at =
    cond (leb (length log) at) no_number_of
    (cond (ltb (get_or log at 0) 128)
    (number (get_or log at 0) (at + 1))
    (behind (get_or log at 0) (number_within groups log (at + 1))))

-- where the part of a slice stands that starts so many octets on
abbrev pub from : ℕ × ℕ → ℕ → ℕ × ℕ
from p n = (p.0, n + p.1)
