-- Slips, told by second numbers: cells that are missing beside those that the receiver tells missing.
-- Assumes nothing.
use Rattle.std.specs.Prelude.{cond, ℕ, ◌+◌, ◌*◌, ◌/◌, ◌-◌, leb}
use Rattle.numbers.specs.Numbers.{difference_of}

-- `by`: "multiples of 8 among the numbers after the last one up to this one, counted on past 15": only there may a second number go up
unfoldable pub starts_of : ℕ → ℕ → ℕ
starts_of last steps = (last + steps) / 8 - last / 8

-- "at least `behind(told, by)` cells are missing beside those told: 0 where told <= by, else 16 × ((told - by + 1) / 2), rounded down":
-- sixteen more cells have two more block starts
unfoldable pub behind_of : ℕ → ℕ → ℕ
behind_of told may = cond (leb told may) 0 ((told - may + 1) / 2 * 16)

-- of two cells that the receiver takes one after the other, by their numbers and second numbers
unfoldable pub slip_of : ℕ → ℕ → ℕ → ℕ → ℕ
slip_of last last_second number second = behind_of (difference_of second last_second) (starts_of last (difference_of number last))
