-- `numbers::entry_of` meets its contract: the first eight bits, turned round, are the table's entry.
-- Assumes nothing.
use Rattle.std.proofs.Common.{ℕ, ◌+◌, ◌*◌, ◌/◌, ◌%◌, ◌∙◌, ap₂, mod-lt, arith}
use Rattle.numbers.proofs.Laws.{entry_right, turned_lt}
use Rattle.numbers.proofs.entry_of.Goals as goal

pub overflow_mul-result : goal.overflow_mul-result
overflow_mul-result c = omega (arith, c.turned_round.ensures, turned_lt c.first_eight-eight.result)

pub overflow_add-result : goal.overflow_add-result
overflow_add-result c = omega (
  arith,
  c.turned_round.ensures,
  turned_lt c.first_eight-eight.result,
  c.turned_round-2.ensures,
  turned_lt (c.first_eight-eight.result / 16),
)

pub returns : goal.returns
returns c = ap₂ (λ (high low : ℕ). high * 16 + low) c.turned_round.ensures c.turned_round-2.ensures
    ∙ entry_right (c.args.number % 16) (mod-lt _ (omega arith)) c.first_eight-eight.ensures
