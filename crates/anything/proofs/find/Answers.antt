-- `anything::find` is safe and ends.
-- Assumes nothing.
use Rattle.std.proofs.Common.{sym, ◌∙◌}
use Rattle.source.proofs.Answers.{read_turned, falls}
use Rattle.anything.proofs.find.Goals as goal

pub take_read-search-requires : goal.take_read-search-requires
take_read-search-requires c = (read_turned c.read-turn.ensures).within

pub loop-from-smaller : goal.loop-from-smaller
loop-from-smaller c = falls _ _ _ (sym c.goes_on.ensures ∙ c.loop-from-test.true) c.read-turn.ensures
