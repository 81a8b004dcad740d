-- `management::packing::rime_port_packing` meets its contract.
-- Assumes nothing.
use mathlib.Core.Path.{refl}
use Prim.Native.Nat.{◌≤◌}
use native.Mathlib.Omega.{arith}
use Rattle.refusals.proofs.Laws.{number_not_0}
use Rattle.management.proofs.Packed.{packs_refused, coded_to, channels_to, packs_settled}
use Rattle.management.proofs.packing.rime_port_packing.Goals as goal
use Rattle.management.proofs.packing.rime_port_packing.Goals.{After-order_coded-coded}

-- what the packing octet is worked out from is small
small : (c : After-order_coded-coded) → c.order_coded-coded.result ≤ 1
small c = coded_to _ _ _ c.in-Ok.ensures refl c.order_coded-coded.ensures

few : (c : After-order_coded-coded) → c.args.channels ≤ 48
few c = channels_to _ _ _ c.in-Ok.ensures refl c.order_coded-coded.ensures

pub returns-in-Err : goal.returns-in-Err
returns-in-Err c = rw c.into.ensures (packs_refused _ _ _ c.in-Err.ensures (number_not_0 c.in-Err.refusal))

pub overflow_mul-packing : goal.overflow_mul-packing
overflow_mul-packing c = omega (arith, small c)

pub overflow_add-packing : goal.overflow_add-packing
overflow_add-packing c = omega (arith, small c, few c)

pub overflow_cast-packing : goal.overflow_cast-packing
overflow_cast-packing c = omega (arith, small c, few c)

pub returns : goal.returns
returns c = packs_settled _ _ _ c.in-Ok.ensures refl c.order_coded-coded.ensures
