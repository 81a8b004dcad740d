-- `management::octets::brought` meets its contract. The loop: so many octets are taken over.
-- Assumes nothing.
use mathlib.Core.Path.{sym, ◌∙◌}
use native.Mathlib.Omega.{arith}
use Rattle.runs.proofs.Filling.{turned_front, done_to_end}
use Rattle.management.specs.Tables.{brought_to}
use Rattle.management.proofs.Parts.{length_brought, get_or_brought}
use Rattle.management.proofs.octets.brought.Goals as goal

pub loop-i-preserved : goal.loop-i-preserved
loop-i-preserved c = let l = c.loop-i in
    let m = c.args.message.now in
    turned_front _ (brought_to 29 m) l.invariant (omega (arith, length_brought 29 m)) (omega (arith, length_brought 29 m))
    (c.octet.ensures ∙ sym (get_or_brought 29 m {k = l.i} c.loop-i-test.true))

pub returns : goal.returns
returns c = let m = c.args.message.now in
    done_to_end _ (brought_to 29 m) 0 c.loop-i.invariant (omega (arith, length_brought 29 m)) (omega (arith, c.loop-i-test.false, length_brought 29 m))
