-- `management::equipment::disconnect` meets its contract.
-- Assumes nothing.
use Rattle.management.proofs.Requests.{disconnected_port}
use Rattle.management.proofs.equipment.disconnect.Goals as goal

pub returns : goal.returns
returns c = disconnected_port _ _ _ c.in-Some.ensures.first c.in-Some.ensures.inside c.disconnect_from.ensures _
