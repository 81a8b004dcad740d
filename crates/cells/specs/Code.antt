-- Words of the code, which document 01 doesn't have: order 1 without a division, and octets turned round.
-- Assumes nothing.
use Rattle.std.specs.Prelude.{ℕ, ◌+◌, ◌-◌, ◌*◌, ◌/◌, ◌%◌, cond, nat_lt}

-- the next place in order 1: a step on, and past the last place back to where the next row begins. A slot's entries stand C apart,
-- the slots of a run's entries T apart.
unfoldable pub step_on : ℕ → ℕ → ℕ → ℕ
step_on step used at = cond (nat_lt (at + step) used) (at + step) (at + step - (used - 1))

-- a number's two lowest octets in the opposite order, and its four lowest
abbrev pub turned_two : ℕ → ℕ
turned_two x = x % 256 * 256 + x / 256 % 256

abbrev pub turned_four : ℕ → ℕ
turned_four x = x % 256 * 16777216 + x / 256 % 256 * 65536 + x / 65536 % 256 * 256 + x / 16777216 % 256
