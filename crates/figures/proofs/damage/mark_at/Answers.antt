-- `figures::damage::mark_at` meets its contract: the first two octets and the last tell the mark.
-- Assumes nothing.
use native.Mathlib.Omega.{arith}
use Rattle.cells.proofs.Subframes.{slot_room}
use Rattle.figures.proofs.Tops.{wide_two, mark_by}
use Rattle.figures.proofs.damage.mark_at.Goals as goal

pub overflow_mul-at : goal.overflow_mul-at
overflow_mul-at c = omega (arith, slot_room c.requires.0 c.requires.3)

pub overflow_add-second : goal.overflow_add-second
overflow_add-second c = omega (arith, slot_room c.requires.0 c.requires.3)

pub bounds-cell-at : goal.bounds-cell-at
bounds-cell-at c = omega (arith, slot_room c.requires.0 c.requires.3, c.requires.2, wide_two c.requires.0 c.requires.1)

pub bounds-cell-at-2 : goal.bounds-cell-at-2
bounds-cell-at-2 c = omega (arith, slot_room c.requires.0 c.requires.3, c.requires.2, c.requires.0.width_from)

pub overflow_sub-format : goal.overflow_sub-format
overflow_sub-format c = omega (arith, c.requires.0.width_from)

pub overflow_add-at : goal.overflow_add-at
overflow_add-at c = omega (arith, slot_room c.requires.0 c.requires.3)

pub bounds-cell-at-3 : goal.bounds-cell-at-3
bounds-cell-at-3 c = omega (arith, slot_room c.requires.0 c.requires.3, c.requires.2, c.requires.0.width_from)

pub overflow_shr-result : goal.overflow_shr-result
overflow_shr-result c = omega (arith, c.low_of-low.ensures.1)

pub returns : goal.returns
returns c = mark_by c.requires.0 c.requires.1 c.args.cell.now c.requires.2 c.args.slot c.requires.3
    (λ i. (c.shared_slice_known-1.given i).fits) c.key_of.ensures.0 c.key_of.ensures.1
    c.marks-bits.ensures c.low_of-low.ensures.0 c.low_of-low.ensures.1
