-- `receiver::entries::subframes_in` meets its contract.
-- Assumes nothing.
use mathlib.Core.Bool.{not}
use mathlib.Core.Path.{◌≡◌, sym, ◌∙◌, ap, subst}
use Prim.Native.Nat.{ℕ, ◌-◌, ◌≤◌, ◌<◌}
use native.Mathlib.Omega.{arith}
use borrow.Author.Tests.{eq-eqb, ne_eqb}
use Rattle.runs.proofs.Filling.{Filled, begun}
use Rattle.formats.specs.Settings.{settled_as}
use Rattle.formats.specs.Settled.{Settled}
use Rattle.cells.specs.Cells.{subframe_at}
use Rattle.cells.specs.Placement.{slot_of_entry}
use Rattle.cells.proofs.Placement.{slot_lt}
use Rattle.receiver.specs.Unpacking.{used_in, own_entries}
use Rattle.receiver.proofs.Reading.{walk_begun, slot_before, slot_last}
use Rattle.receiver.proofs.Unpacking.{used_from, times_few, own_on, own_done, slot_in, slot_on, slot_stepped}
use Rattle.receiver.proofs.entries.subframes_in.Goals as goal
use Rattle.receiver.proofs.entries.subframes_in.Goals.{then-this-ne0, else-this-ne0, then-this-ne0-2, else-this-ne0-2, then-this-ne0-3, else-this-ne0-3}

pub loop-i-init : goal.loop-i-init
loop-i-init g c = (
  begun c.args.run.now c.args.at (own_entries (λ x. x) (settled_as c.args.set) c.args.cell.now),
  walk_begun c.args.set.by_channel c.args.set.channels c.args.set.times c.requires.0.channels_from,
  elim c.if-this-ne0.branch [ then-this-ne0 w ↦ omega (arith, w.count-is) | else-this-ne0 w ↦ omega (arith, w.count-is) ],
)

pub three_in-requires : goal.three_in-requires
three_in-requires g c = let set : Settled = settled_as c.args.set in
    let less : c.loop-i.i < used_in set - 1
    = elim c.if-this-ne0.branch [
      | then-this-ne0 w ↦ omega (arith, w.count-is, c.loop-i-test.true)
      | else-this-ne0 w ↦ absurd (c.if-this-ne0-2.true w.if-this-ne0.false)
    ] in
    let before = slot_before set.by_channel set.channels set.times c.requires.0.channels_from c.requires.0.times_from less in (
      c.requires.0.sound,
      c.requires.4 (ap not (ne_eqb _ _ c.if-this-ne0-2.true)),
      c.requires.1,
      rw c.loop-i.invariant.1 (omega (arith, before, c.requires.0.used_in_lem)),
    )

pub subframe_in-requires : goal.subframe_in-requires
subframe_in-requires g c = let less : c.loop-i.i < used_in (settled_as c.args.set) = omega (arith, c.loop-i.invariant.2, c.loop-i-test.true) in
    (c.requires.0.sound, c.requires.1, slot_in (settled_as c.args.set) c.args.cell.now c.requires.0 less c.loop-i.invariant.1)

pub next_slot-slot-requires : goal.next_slot-slot-requires
next_slot-slot-requires g c = let set : Settled = settled_as c.args.set in
    let less : c.loop-i.i < used_in set = omega (arith, c.loop-i.invariant.2, c.loop-i-test.true) in (
      rw c.loop-i.invariant.1 (slot_lt set.channels set.times c.requires.0.channels_from set.by_channel less),
      c.requires.0.used_to,
      times_few set.channels set.times c.requires.0.channels_from c.requires.0.used_to,
    )

pub overflow_add-slot : goal.overflow_add-slot
overflow_add-slot g c = let set : Settled = settled_as c.args.set in
    let less : c.loop-i.i < used_in set = omega (arith, c.loop-i.invariant.2, c.loop-i-test.true) in
    omega (arith, c.loop-i.invariant.1, slot_lt set.channels set.times c.requires.0.channels_from set.by_channel less, c.requires.0.used_to)

pub loop-i-preserved : goal.loop-i-preserved
loop-i-preserved g c = let set : Settled = settled_as c.args.set in
    let less : c.loop-i.i < used_in set = omega (arith, c.loop-i.invariant.2, c.loop-i-test.true) in
    let read : c.if-this-ne0-2.run ≡ subframe_at set.format c.args.cell.now c.loop-i.slot
    = elim c.if-this-ne0-2.branch [
      | then-this-ne0-2 w ↦ w.run-is ∙ w.three_in.ensures
      | else-this-ne0-2 w ↦ w.run-is ∙ w.subframe_in.ensures
    ] in (
      own_on set c.args.cell.now c.args.run.now c.args.at c.requires.2 c.loop-i.invariant.0 less c.loop-i.invariant.1 read,
      elim c.if-this-ne0-3.branch [
        | then-this-ne0-3 w ↦
            w.slot-is
            ∙ w.next_slot-slot.ensures
            ∙ slot_stepped set c.args.cell.now c.requires.0 (c.requires.3 ∙ ap not (ne_eqb _ _ w.if-this-ne0-3.true)) less
            c.loop-i.invariant.1
        | else-this-ne0-3 w ↦
            w.slot-is ∙ slot_on set c.args.cell.now (c.requires.3 ∙ ap not (eq-eqb _ _ w.if-this-ne0-3.false)) c.loop-i.i c.loop-i.invariant.1
      ],
      c.loop-i.invariant.2,
    )

pub returns-then-this-ne0-4 : goal.returns-then-this-ne0-4
returns-then-this-ne0-4 g c = let set : Settled = settled_as c.args.set in
    let some : 1 ≤ used_in set = used_from set c.args.cell.now c.requires.0 in
    let last : c.if-this-ne0.count ≡ used_in set - 1
    = elim c.if-this-ne0.branch [
      | then-this-ne0 w ↦ w.count-is
      | else-this-ne0 w ↦ absurd (c.if-this-ne0-4.true w.if-this-ne0.false)
    ] in
    let end : c.loop-i.i ≡ c.if-this-ne0.count = omega (arith, c.loop-i-test.false, c.loop-i.auto.i-end) in
    own_done set c.args.cell.now c.args.run.now c.args.at c.requires.2
    (own_on set c.args.cell.now c.args.run.now c.args.at c.requires.2
    (subst (λ (k : ℕ). Filled c.loop-i.run c.args.run.now c.args.at (own_entries (λ x. x) set c.args.cell.now) k) end c.loop-i.invariant.0)
    (omega (arith, some, last))
    (last
    ∙ sym (slot_last set.by_channel set.channels set.times c.requires.0.channels_from c.requires.0.times_from)
    ∙ ap (slot_of_entry set.by_channel set.channels set.times) (sym last))
    c.subframe_in-then-this-ne0-4.ensures)
    (omega (arith, some, last))

pub returns-else-this-ne0-4 : goal.returns-else-this-ne0-4
returns-else-this-ne0-4 g c = let all : used_in (settled_as c.args.set) ≤ c.loop-i.i
    = elim c.if-this-ne0.branch [
      | then-this-ne0 w ↦ absurd (w.if-this-ne0.true c.if-this-ne0-4.false)
      | else-this-ne0 w ↦ omega (arith, w.count-is, c.loop-i-test.false)
    ] in
    own_done (settled_as c.args.set) c.args.cell.now c.args.run.now c.args.at c.requires.2 c.loop-i.invariant.0 all
