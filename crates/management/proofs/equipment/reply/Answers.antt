-- `management::equipment::reply` meets its contract: where the answer has no room nothing is written.
-- Assumes nothing.
use mathlib.Core.Path.{refl}
use Rattle.management.proofs.Replies.{left_short}
use Rattle.management.proofs.equipment.reply.Goals as goal

pub returns-in-None : goal.returns-in-None
returns-in-None c = left_short _ _ _ c.in-None.ensures.replies refl
