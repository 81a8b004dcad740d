-- `salvage::save` is safe and ends, and what it prints is whole.
-- Assumes nothing.
use Rattle.std.proofs.Common.{arith, sym, ◌∙◌}
use Rattle.source.proofs.Answers.{read_turned, falls}
use Rattle.salvage.proofs.save.Goals as goal

pub take_read-wrote-requires : goal.take_read-wrote-requires
take_read-wrote-requires c = (
  (read_turned c.read-turn.ensures).within,
  omega (arith, c.read-turn.auto.buffer, c.loop-from.auto.buffer, c.requires.0),
  omega (arith, c.loop-from.auto.out, c.requires.1),
  omega (arith, c.loop-from.auto.notes, c.requires.2),
)

pub loop-from-smaller : goal.loop-from-smaller
loop-from-smaller c = falls _ _ _ (sym c.goes_on.ensures ∙ c.loop-from-test.true) c.read-turn.ensures
