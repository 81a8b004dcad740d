-- `saving::has_room` meets its contract: a law for each return.
-- Assumes nothing.
use native.Mathlib.Omega.{arith}
use borrow.Author.Tests.{lt-leb}
use Rattle.reading.proofs.Reading.{header_long}
use Rattle.saving.proofs.Answers.{few, out_short, by_list, room_always}
use Rattle.saving.proofs.has_room.Goals as goal

pub overflow_mul-size : goal.overflow_mul-size
overflow_mul-size c = omega (arith, c.well_formed)

pub returns-then-size-list : goal.returns-then-size-list
returns-then-size-list c = room_always _ c.requires.0 c.requires.1 _ _ c.if-size-out.true c.if-size-list.true

pub count-counted-requires : goal.count-counted-requires
count-counted-requires c = header_long _ c.requires.0

pub overflow_mul-counted : goal.overflow_mul-counted
overflow_mul-counted c = omega (arith, c.well_formed, few _ c.requires.0 c.requires.1 c.count-counted.ensures)

pub overflow_add-counted : goal.overflow_add-counted
overflow_add-counted c = omega (arith, c.well_formed, few _ c.requires.0 c.requires.1 c.count-counted.ensures)

pub returns-else-counted-out : goal.returns-else-counted-out
returns-else-counted-out c =
    rw (lt-leb _ _ c.if-counted-out.false)
    (out_short _ c.requires.0 c.requires.1 c.count-counted.ensures _ _ c.if-counted-out.false)

pub overflow_mul-result : goal.overflow_mul-result
overflow_mul-result c = omega (arith, c.well_formed, few _ c.requires.0 c.requires.1 c.count-counted.ensures)

pub returns-then-counted-out : goal.returns-then-counted-out
returns-then-counted-out c = by_list _ c.requires.0 c.requires.1 c.count-counted.ensures _ _ c.if-counted-out.true
