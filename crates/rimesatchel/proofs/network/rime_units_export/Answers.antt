-- `rimesatchel::network::rime_units_export` meets its contract: it says what `units::export_units` says.
-- Assumes nothing.
use Rattle.rimesatchel.proofs.NetworkLeaves.{exported_units}
use Rattle.rimesatchel.proofs.network.rime_units_export.Goals as goal

pub returns : goal.returns
returns c = let a = c.args in
    exported_units a.format a.channels a.size a.samples.now a.ancillary.now a.out.now c.export_units-left.ensures
