-- `receiver::opened` meets its contract.
-- Assumes nothing.
use mathlib.Core.Path.{refl}
use native.Mathlib.Omega.{arith}
use Rattle.refusals.proofs.Laws.{number_not_0}
use Rattle.formats.proofs.Laws.{Settles, settles_all, given_none, listed_octet, slots_listed}
use Rattle.receiver.proofs.Laws.{opens_refused, opens}
use Rattle.receiver.proofs.opened.Goals as goal
use Rattle.receiver.proofs.opened.Goals.{In_default}

settles : (c : In_default) → Settles c.args.format c.args.channels c.args.order
settles c =
    let a = c.args in
    settles_all a.format a.channels a.order
    (given_none a.format a.channels a.order 0 c.in_default.ensures refl)

pub returns-in-Err : goal.returns-in-Err
returns-in-Err c = let a = c.args in
    rw c.into.ensures (opens_refused a.format a.channels a.order c.in-Err.ensures (number_not_0 c.in-Err.refusal))

pub overflow_cast-result : goal.overflow_cast-result
overflow_cast-result c = record { fits = listed_octet c.args.format (settles c).listed }

pub overflow_cast-result-2 : goal.overflow_cast-result-2
overflow_cast-result-2 c = omega (arith, (settles c).channels_to, slots_listed c.args.format (settles c).listed)

pub overflow_cast-result-3 : goal.overflow_cast-result-3
overflow_cast-result-3 c = omega (arith, (settles c).order_to)

pub returns : goal.returns
returns c = let a = c.args in
    opens a.format a.channels a.order c.in_default.ensures refl
