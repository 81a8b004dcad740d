-- Words of the code, which document 01 doesn't have: the sequencing bits of a cell as one number.
-- Assumes nothing.
use Rattle.std.specs.Prelude.{ℕ, ◌+◌, ◌*◌, ◌/◌, ◌%◌}
use Rattle.numbers.specs.Numbers.{turned}

-- slot k's bit is worth 2^k
unfoldable pub sequence_of : ℕ → ℕ → ℕ
sequence_of word second = turned (word / 16) + turned (word % 16) * 16 + second * 256
