-- The measure is what the loop's turn leaves.
-- Assumes nothing.
use Rattle.source.specs.Numbered.{turned}
use Rattle.source.proofs.Answers.{falling_of}
use Rattle.linelist.proofs.list.Given as goal

abbrev pub decreases-loop-from : goal.decreases-loop-from
decreases-loop-from l = falling_of (turned l.turn)
