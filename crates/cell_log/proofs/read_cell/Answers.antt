-- `cell_log::read_cell` meets its contract.
-- Assumes nothing.
use mathlib.Core.Path.{refl}
use native.Mathlib.Omega.{arith}
use Rattle.cell_log.proofs.Answered.{answered_some, answered_none}
use Rattle.cell_log.proofs.Places.{room_of, part_cell, part_empty}
use Rattle.cell_log.proofs.read_cell.Goals as goal

pub overflow_add-result : goal.overflow_add-result
overflow_add-result c = omega (arith, room_of _ _ (answered_some _ c.in-Ok-Some.field-0-is c.in-Ok-Some.ensures))

pub slice_bounds-result-end : goal.slice_bounds-result-end
slice_bounds-result-end c = omega (arith, room_of _ _ (answered_some _ c.in-Ok-Some.field-0-is c.in-Ok-Some.ensures))

pub returns-in-Ok-Some : goal.returns-in-Ok-Some
returns-in-Ok-Some c = part_cell _ _ _ (answered_some _ c.in-Ok-Some.field-0-is c.in-Ok-Some.ensures) refl

pub returns-in-Ok-None : goal.returns-in-Ok-None
returns-in-Ok-None c = part_empty _ _ _ (answered_none _ c.in-Ok-None.field-0-is c.in-Ok-None.ensures) refl refl

pub returns-in-Err : goal.returns-in-Err
returns-in-Err c = part_empty _ _ _ c.in-Err.ensures refl refl
