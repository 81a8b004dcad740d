-- `receiver::usual::judged` meets its contract.
-- Assumes nothing.
use Rattle.receiver.specs.Receiver.{judged_of}
use Rattle.receiver.proofs.AllSlots.{usual_settles}
use Rattle.receiver.proofs.usual.judged.Goals as goal

pub answered-requires : goal.answered-requires
answered-requires c = usual_settles c.args.state c.usual-set.ensures c.requires

pub returns : goal.returns
unfolding judged_of
returns c = c.answered.ensures
