-- `figures::damage::marked_1` meets its contract: slot by slot.
-- Assumes nothing.
use native.Mathlib.Omega.{arith}
use Rattle.cells.proofs.Subframes.{four}
use Rattle.figures.proofs.Slots.{looked_begun, looked_on, looked_done, none_marked}
use Rattle.figures.proofs.damage.marked_1.Goals as goal

pub returns-then-format-eq0 : goal.returns-then-format-eq0
returns-then-format-eq0 c = none_marked _ _ _ c.if-format-eq0.true

pub loop-slot-init : goal.loop-slot-init
loop-slot-init c = looked_begun

pub mark_at-count-requires : goal.mark_at-count-requires
mark_at-count-requires c = (c.requires.0, four c.requires.0 c.if-format-eq0.false, c.requires.1, omega (arith, c.loop-slot-test.true, c.requires.2))

pub overflow_add-count : goal.overflow_add-count
overflow_add-count c = omega (arith, c.mark_at-count.ensures.1, c.loop-slot.invariant.few, c.loop-slot-test.true, c.requires.2, c.requires.0.slots_to)

pub loop-slot-preserved : goal.loop-slot-preserved
loop-slot-preserved c = looked_on c.loop-slot.invariant c.loop-slot-test.true c.mark_at-count.ensures

pub returns : goal.returns
returns c = looked_done c.loop-slot.invariant c.loop-slot-test.false
