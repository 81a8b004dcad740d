-- `figures::add_up` meets its contract. The loop: the lengths so far and what is left are all octets.
-- Assumes nothing.
use native.Mathlib.Omega.{arith}
use Rattle.reading.specs.Totals.{total_of}
use Rattle.figures.proofs.Laws.{sum_next, sum_above, sum_all}
use Rattle.figures.proofs.add_up.Goals as goal

pub loop-length-init : goal.loop-length-init
unfolding total_of
loop-length-init c = omega arith

pub returns-then-left-length : goal.returns-then-left-length
returns-then-left-length c = sum_above c.args.lengths.now c.loop-length.length-index c.loop-length-test.true
    c.loop-length.invariant c.if-left-length.true

pub loop-length-preserved : goal.loop-length-preserved
loop-length-preserved c =
    omega (arith, c.loop-length.invariant, c.if-left-length.false, sum_next c.args.lengths.now c.loop-length.length-index c.loop-length-test.true)

pub returns : goal.returns
returns c = sum_all c.args.lengths.now c.loop-length.length-index c.loop-length.left
    (omega (arith, c.loop-length-test.false)) c.loop-length.invariant
