-- `sender::fill::fill` meets its contract.
-- Assumes nothing.
use Rattle.std.proofs.Common.{ℕ, ◌%◌, ◌<◌, length, refl, ap, arith}
use Rattle.formats.specs.Settings.{settled_as}
use Rattle.sender.proofs.Filling.{filling_begun, filling_on, filling_done, bits_begun, bits_on, entry_first, entry_in}
use Rattle.sender.proofs.Filling.{used_few, as_many, slot_ready, slot_put, used_number}
use Rattle.sender.proofs.fill.fill.Goals as goal
use Rattle.sender.proofs.fill.fill.Goals.{In-loop-slot, Start}

abbrev from : In-loop-slot → Start
from c = (goal.at.In-loop-slot c).Start

-- the entry is one of the run's
inside : (c : In-loop-slot) → c.loop-slot.entry < length (from c).args.samples.now
inside c = let p = (from c).requires.0 in
    entry_in (settled_as (from c).args.set) p.limits p.samples_length c.loop-slot-test.true c.loop-slot.invariant.entry_is

pub loop-slot-init : goal.loop-slot-init
loop-slot-init c = let a = c.args in record {
  filling = filling_begun (settled_as a.set) a.sequence a.samples.now a.ancillary.now a.cell.now (length a.samples.now);
  entry_is = entry_first (settled_as a.set);
  rest_is = bits_begun a.sequence;
}

pub offset_bounds-samples-entry : goal.offset_bounds-samples-entry
offset_bounds-samples-entry c = omega (arith, inside c, used_few (from c).requires.0)

pub bounds-samples-entry : goal.bounds-samples-entry
bounds-samples-entry c = inside (goal.at.bounds-samples-entry c).In-loop-slot

pub bounds-ancillary-entry : goal.bounds-ancillary-entry
bounds-ancillary-entry c = let at = (goal.at.bounds-ancillary-entry c).In-loop-slot in omega (arith, inside at, as_many (from at).requires.0)

pub subframe-number-requires : goal.subframe-number-requires
subframe-number-requires c =
    slot_ready (from (goal.at.subframe-number-requires c).In-loop-slot).requires.0 c.loop-slot.entry c.from.ensures (omega arith)

pub put-requires : goal.put-requires
put-requires c = let given = (from (goal.at.put-requires c).In-loop-slot).requires in
    slot_put given.0 c.loop-slot-test.true c.loop-slot.invariant.filling.same given.1

pub next_entry-entry-requires : goal.next_entry-entry-requires
next_entry-entry-requires c = let p = (from (goal.at.next_entry-entry-requires c).In-loop-slot).requires.0 in
    (p.limits, p.samples_length, c.loop-slot-test.true, c.loop-slot.invariant.entry_is)

pub loop-slot-preserved : goal.loop-slot-preserved
loop-slot-preserved c = let s = from (goal.at.loop-slot-preserved c).In-loop-slot in
    let a = s.args in
    let here = c.loop-slot.invariant in record {
      filling =
          filling_on (settled_as a.set) a.sequence a.samples.now a.ancillary.now a.cell.now here.filling c.loop-slot-test.true refl
          (used_number s.requires.0 here.entry_is c.loop-slot-test.true c.from.ensures (ap (λ (n : ℕ). n % 2) here.rest_is)
          c.subframe-number.ensures)
          c.put.ensures c.put.auto.cell;
      entry_is = c.next_entry-entry.ensures;
      rest_is = bits_on a.sequence c.loop-slot.slot here.rest_is;
    }

pub returns : goal.returns
returns c = let a = c.args in
    filling_done (settled_as a.set) a.sequence a.samples.now a.ancillary.now a.cell.now c.loop-slot.invariant.filling c.loop-slot-test.false
