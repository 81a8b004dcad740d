-- `management::equipment::connect` meets its contract.
-- Assumes nothing.
use Rattle.management.proofs.Requests.{connected_port}
use Rattle.management.proofs.equipment.connect.Goals as goal

pub returns : goal.returns
returns c = connected_port _ _ _ c.number.ensures c.if-number-eq0.false c.in-Some.ensures.first c.in-Some.ensures.inside
    c.connect_to.ensures _
