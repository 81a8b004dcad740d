-- Numbers for what is to be done behind a read.
-- Assumes nothing.
use Rattle.std.specs.Prelude.{ℕ}
use Rattle.source.specs.declared.turns.Next.{Next}
use Rattle.source.specs.declared.turns.Next.TheVariants.{On, End, Failed, Uncounted}
use Rattle.source.specs.declared.turns.Turn as code
use Rattle.source.specs.Turns.{Turn}

-- "1 go on, 2 finish, since the input ends, 3 say that the read failed, 4 say that more octets came than can be counted"
abbrev pub number_of : Next → ℕ
number_of On = 1
number_of End = 2
number_of Failed = 3
number_of Uncounted = 4

-- a turn of the code
abbrev pub turned : code.Turn → Turn
turned t = record { what = number_of t.what; octets = t.octets; left = t.left }
