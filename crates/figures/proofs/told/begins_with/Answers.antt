-- `figures::told::begins_with` meets its contract: bit by bit.
-- Assumes nothing.
use mathlib.Core.Bool.{true≢false}
use mathlib.Core.Path.{sym}
use Prim.Native.Nat.{◌+◌, ◌*◌, ◌-◌}
use native.Mathlib.Omega.{arith}
use Rattle.figures.proofs.Turns.{eight_room, alike_begun, alike_on, alike_all}
use Rattle.figures.proofs.told.begins_with.Goals as goal

pub loop-slot-init : goal.loop-slot-init
loop-slot-init c = alike_begun

pub overflow_mul-octet : goal.overflow_mul-octet
overflow_mul-octet c = omega (arith, eight_room c.requires.0 c.loop-slot-test.true)

pub overflow_sub-octet : goal.overflow_sub-octet
overflow_sub-octet c = omega (arith, c.requires.0.width_from)

pub overflow_add-octet : goal.overflow_add-octet
overflow_add-octet c = omega (arith, eight_room c.requires.0 c.loop-slot-test.true)

pub bounds-cell-slot : goal.bounds-cell-slot
bounds-cell-slot c = omega (arith, eight_room c.requires.0 c.loop-slot-test.true, c.requires.1, c.requires.0.width_from)

pub overflow_cast-octet : goal.overflow_cast-octet
overflow_cast-octet c = let width = c.args.format.width in
    omega (arith, c.shared_slice_known-1.given (c.loop-slot.slot * width + (width - 1)))

pub returns-then-octet-sequence : goal.returns-then-octet-sequence
returns-then-octet-sequence c e = absurd (true≢false (sym e))

pub loop-slot-preserved : goal.loop-slot-preserved
loop-slot-preserved c = alike_on c.loop-slot.invariant c.loop-slot-test.true c.requires.0 c.requires.1 c.if-octet-sequence.false

pub returns : goal.returns
returns c same = alike_all c.loop-slot.invariant c.loop-slot-test.false
