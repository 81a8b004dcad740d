-- `rimesatchel::network::rime_unit_read` meets its contract: it says what `units::read_unit` says.
-- Assumes nothing.
use Rattle.rimesatchel.proofs.NetworkLeaves.{read_unit}
use Rattle.rimesatchel.proofs.network.rime_unit_read.Goals as goal

pub returns : goal.returns
returns c = let a = c.args in
    read_unit a.format a.channels a.unit.now a.samples.now a.ancillary.now c.read_unit-left.ensures
