-- `numbers::first_eight` meets its contract: number, complement and parity are the table's entry, the first bit lowest.
-- Assumes nothing.
use Rattle.std.proofs.Common.{◌≡◌, ℕ, ◌%◌, ◌<◌, ap, ◌∙◌, mod-lt, mod-eq_of_lt, arith}
use lib.Bits.{bit_xor}
use Rattle.numbers.proofs.Laws.{turned_remainder, complement_lt, seven_lt, eight_right}
use Rattle.numbers.proofs.first_eight.Goals as goal
use Rattle.numbers.proofs.first_eight.Goals.{After-remainder_of}

below : (number : ℕ) → number % 16 < 16
below number = mod-lt number (omega arith)

-- the remainder of the number's own four bits
rest : (c : After-remainder_of) → c.remainder_of.result ≡ turned_remainder (c.args.number % 16)
rest c = c.remainder_of.ensures ∙ ap turned_remainder (mod-eq_of_lt (below c.args.number))

pub overflow_add-seven : goal.overflow_add-seven
overflow_add-seven c = let number = c.args.number in
    let small : bit_xor c.remainder_of.result 112 < 128 = rw (rest c) (complement_lt (number % 16) (below number)) in
    omega (arith, below number)

pub overflow_add-result : goal.overflow_add-result
overflow_add-result c = omega (arith, seven_lt (c.args.number % 16) (below c.args.number) (rest c))

pub returns : goal.returns
returns c = eight_right (c.args.number % 16) (below c.args.number) (rest c)
