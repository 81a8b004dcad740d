-- `sheet::read_all` is safe and ends.
-- Assumes nothing.
use Rattle.std.proofs.Common.{sym, ◌∙◌}
use Rattle.source.proofs.Answers.{read_turned, falls}
use Rattle.sheet.proofs.read_all.Goals as goal

pub take_read-sheet-requires : goal.take_read-sheet-requires
take_read-sheet-requires c = (read_turned c.read-turn.ensures).within

pub loop-from-smaller : goal.loop-from-smaller
loop-from-smaller c = falls _ _ _ (sym c.goes_on.ensures ∙ c.loop-from-test.true) c.read-turn.ensures
