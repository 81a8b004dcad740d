-- `source::words_in` meets its contract: what it puts into the name fits it.
-- Assumes nothing.
use Rattle.std.proofs.Common.{arith}
use Rattle.text.proofs.Laws.{within_from_start}
use Rattle.source.proofs.words_in.Goals as goal

pub returns : goal.returns
returns c = omega (arith, within_from_start c.put_all-put.ensures, c.put_all-put.auto.run)
