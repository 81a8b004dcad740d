-- `sender::usual::fill_usual` meets its contract.
-- Assumes nothing.
use Rattle.std.proofs.Common.{◌<◌, length, refl, arith}
use Rattle.formats.specs.Settings.{settled_as}
use Rattle.sender.proofs.Filling.{filling_begun, filling_on, filling_done}
use Rattle.sender.proofs.Filling.{small_at, put_ready, subframe_ready, in_order, guarded_number}
use Rattle.sender.proofs.Subframes.{guard_of_24}
use Rattle.sender.proofs.usual.fill_usual.Goals as goal
use Rattle.sender.proofs.usual.fill_usual.Goals.{In-loop-slot, Start}

abbrev from : In-loop-slot → Start
from c = (goal.at.In-loop-slot c).Start

-- twelve slots are all that there are
less : (c : In-loop-slot) → c.loop-slot.slot < length (from c).args.samples.now
less c = omega (arith, (from c).requires.4, c.loop-slot-test.true)

pub bounds-samples-slot : goal.bounds-samples-slot
bounds-samples-slot c = less (goal.at.bounds-samples-slot c).In-loop-slot

pub loop-slot-init : goal.loop-slot-init
loop-slot-init c = let a = c.args in
    filling_begun (settled_as a.set) a.sequence a.samples.now a.ancillary.now a.cell.now (length a.samples.now)

pub guarded-number-requires : goal.guarded-number-requires
guarded-number-requires c = let given = (from (goal.at.guarded-number-requires c).In-loop-slot).requires in
    let slot = c.loop-slot.slot in
    subframe_ready given.0 given.2 slot (guard_of_24 (small_at given.0 given.2 slot) c.protection-guard.ensures)
    c.from.ensures (omega arith)

pub put_four-requires : goal.put_four-requires
put_four-requires c = let given = (from (goal.at.put_four-requires c).In-loop-slot).requires in
    (put_ready given.0 given.2 (less (goal.at.put_four-requires c).In-loop-slot) c.loop-slot.invariant.same given.3).0

pub loop-slot-preserved : goal.loop-slot-preserved
loop-slot-preserved c = let s = from (goal.at.loop-slot-preserved c).In-loop-slot in
    let given = s.requires in
    let a = s.args in
    let inside = less (goal.at.loop-slot-preserved c).In-loop-slot in
    filling_on (settled_as a.set) a.sequence a.samples.now a.ancillary.now a.cell.now c.loop-slot.invariant inside given.2.width_is
    (guarded_number given.0 given.2 (in_order (settled_as a.set) given.1) inside c.from.ensures refl c.guarded-number.ensures)
    c.put_four.ensures c.put_four.auto.cell

pub returns : goal.returns
returns c = let a = c.args in
    filling_done (settled_as a.set) a.sequence a.samples.now a.ancillary.now a.cell.now c.loop-slot.invariant
    (omega (arith, c.requires.4, c.loop-slot-test.false))
