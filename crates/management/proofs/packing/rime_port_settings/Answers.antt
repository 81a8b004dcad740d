-- `management::packing::rime_port_settings` meets its contract.
-- Assumes nothing.
use mathlib.Core.Path.{refl}
use Rattle.refusals.proofs.Laws.{number_not_0}
use Rattle.management.proofs.Packed.{sets_refused, sets_settled}
use Rattle.management.proofs.packing.rime_port_settings.Goals as goal

pub returns-in-Err : goal.returns-in-Err
returns-in-Err c =
    rw c.into.ensures
    (sets_refused _ c.from-format.ensures c.from-packing.ensures c.in-Err.ensures (number_not_0 c.in-Err.refusal))

pub returns : goal.returns
returns c = sets_settled _ c.from-format.ensures c.from-packing.ensures c.in_default.ensures refl
