-- What a program does behind a read.
-- Assumes nothing.
use Rattle.std.specs.Prelude.{cond, ◌≡◌, ℕ, ◌-◌, min, eqb, ltb, ℤ, pos, negsuc}

-- what is to be done: 1 go on, 2 finish, since the input ends, 3 say that the read failed, 4 say that more octets came than can be
-- counted; how many octets came, and how many may still come
pub record Turn : Type 0 where
  pub what : ℕ
  pub octets : ℕ
  pub left : ℕ

-- before the first read: so many octets can be counted
abbrev pub first_turn : Turn
first_turn = record { what = 1; octets = 0; left = 18446744073709551615 }

-- no octets came, and this is to be done
abbrev pub without : ℕ → ℕ → Turn
without what left = record { what = what; octets = 0; left = left }

-- so many octets came: 2, finish, where there are none; 4 where they are more than can be counted; else 1, go on with them
unfoldable pub came_of : ℕ → ℕ → Turn
came_of octets left =
    cond (eqb octets 0) (without 2 left)
    (cond (ltb left octets) (without 4 left) (record { what = 1; octets = octets; left = left - octets }))

-- what a read answered, brought into a buffer of so many octets: none where it is below 0
abbrev pub clamp_len : ℤ → ℕ → ℕ
clamp_len (pos k) most = min k most
clamp_len (negsuc k) most = 0

-- what a read answered, with its sign: below 0 it failed, 3; else it is how many octets came, which the buffer holds
unfoldable pub turn_of : ℤ → ℕ → ℕ → Turn
turn_of (pos n) room left = came_of (min n room) left
turn_of (negsuc n) room left = without 3 left

-- the whole promise of a read: whatever the system answered, this is to be done then
pub record Reads (left room : ℕ) (answer : Turn) : Type 0 where
  pub got : ℤ
  pub turned : answer ≡ turn_of got room left
