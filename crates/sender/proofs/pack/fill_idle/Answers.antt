-- `sender::pack::fill_idle` meets its contract.
-- Assumes nothing.
use Rattle.formats.specs.Settings.{settled_as}
use Rattle.std.proofs.Common.{◌/◌, ◌%◌, ◌^◌, refl, arith}
use Rattle.cells.proofs.Subframes.{slot_room}
use Rattle.sender.proofs.Filling.{filling_on, filling_done, used_in_lem, idle_number_lem}
use Rattle.sender.proofs.pack.fill_idle.Goals as goal
use Rattle.sender.proofs.pack.fill_idle.Goals.{In-loop-slot, Start}

abbrev from : In-loop-slot → Start
from c = (goal.at.In-loop-slot c).Start

pub loop-slot-init : goal.loop-slot-init
loop-slot-init c = let given = c.requires in
    (omega arith, record { within = used_in_lem given.0; is = given.2; same = refl })

pub overflow_mul-slot : goal.overflow_mul-slot
overflow_mul-slot c = omega (arith, slot_room (from (goal.at.overflow_mul-slot c).In-loop-slot).requires.0.limits.sound c.loop-slot-test.true)

pub put-requires : goal.put-requires
put-requires c = let given = (from (goal.at.put-requires c).In-loop-slot).requires in (
  omega (arith, slot_room given.0.limits.sound c.loop-slot-test.true, c.loop-slot.invariant.1.same, given.1),
  given.0.limits.sound.width_to,
)

pub loop-slot-preserved : goal.loop-slot-preserved
loop-slot-preserved c = let a = (from (goal.at.loop-slot-preserved c).In-loop-slot).args in
    let here = c.loop-slot in (
      omega (arith, here.invariant.0),
      filling_on (settled_as a.set) a.sequence a.samples.now a.ancillary.now a.cell.now here.invariant.1 c.loop-slot-test.true refl
          (idle_number_lem (from (goal.at.loop-slot-preserved c).In-loop-slot).requires.0 (a.sequence / 2 ^ here.slot % 2) here.invariant.0 c.idle_subframe-number.ensures)
          c.put.ensures c.put.auto.cell,
    )

pub returns : goal.returns
returns c = let a = c.args in
    filling_done (settled_as a.set) a.sequence a.samples.now a.ancillary.now a.cell.now c.loop-slot.invariant.1 c.loop-slot-test.false
