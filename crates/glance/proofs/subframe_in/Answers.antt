-- `glance::subframe_in` meets its contract: by four octets, and by any width.
-- Assumes nothing.
use native.Mathlib.Omega.{arith}
use Rattle.cells.specs.Cells.{subframe_at}
use Rattle.cells.proofs.Subframes.{slot_room}
use Rattle.receiver.proofs.Reading.{by_width, slot_at}
use Rattle.glance.proofs.subframe_in.Goals as goal

pub number_in-requires : goal.number_in-requires
number_in-requires c = (omega arith, slot_at c.requires.0 c.args.cell.now c.requires.1 c.requires.2 c.in-4.is)

pub returns-in-4 : goal.returns-in-4
returns-in-4 c = (by_width c.args.format c.args.cell.now c.args.slot c.in-4.is c.number_in.ensures.0, c.number_in.ensures.1)

pub overflow_mul-slot-in_default : goal.overflow_mul-slot-in_default
overflow_mul-slot-in_default c = omega (arith, slot_room c.requires.0 c.requires.2)

pub number_in-requires-in_default : goal.number_in-requires-in_default
number_in-requires-in_default c = (c.requires.0.width_to, omega (arith, slot_room c.requires.0 c.requires.2, c.requires.1))

pub returns-in_default : goal.returns-in_default
unfolding subframe_at
returns-in_default c = c.number_in-in_default.ensures
