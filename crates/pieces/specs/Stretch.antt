-- Whole records that lie one behind the other in a piece, for those who take many at once. These are the code's words: each record
-- is one that a step along the piece finds (pieces/proofs/Stretches).
-- Assumes nothing.
use Rattle.std.specs.Prelude.{ℕ, ◌+◌, ◌-◌, ◌*◌, ◌/◌, ◌%◌, ◌^◌, cond, ◌&&◌, List, [], drop, ◌==◌, nat_lt}
use Rattle.reading.specs.Records.{Whole, walk_within}
use Rattle.pieces.specs.declared.Standing.{Standing}
use Rattle.pieces.specs.declared.Stretch.{Stretch}

unfoldable pub least : ℕ → ℕ → ℕ
least a b = cond (nat_lt a b) a b

-- the whole records from a place on, where one begins there: at most so many, and no more than the limit leaves
unfoldable pub stretch_of : ℕ → Standing → List ℕ → ℕ → List Whole
stretch_of most s piece place =
    cond (s.stage == 1 && s.count % 49 == 0) (walk_within (least most (s.left / 49)) (drop place piece)).records []

-- where the log stands behind so many
unfoldable pub standing_past : Standing → ℕ → Standing
standing_past s n =
    cond (n == 0) s
    (record { stage = 1; fault = s.fault; count = 0; left = s.left - 49 * n; records = (s.records + n) % 2 ^ 64 })

-- how many, the place behind them, and the standing there
abbrev pub past_stretch : Standing → ℕ → ℕ → Stretch
past_stretch s place n = record { records = n; next = place + 49 * n; standing = standing_past s n }
