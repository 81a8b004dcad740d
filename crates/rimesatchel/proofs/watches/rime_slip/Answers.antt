-- `rimesatchel::watches::rime_slip` meets its contract.
-- Assumes nothing.
use Rattle.refusals.specs.Refusals.{refused_by}
use Rattle.rimesatchel.proofs.watches.rime_slip.Goals as goal

pub returns-in-Ok : goal.returns-in-Ok
unfolding refused_by
returns-in-Ok c = rw c.octets.ensures c.in-Ok.ensures

pub returns-in-Err : goal.returns-in-Err
unfolding refused_by
returns-in-Err c = rw c.into.ensures c.in-Err.ensures
