-- `receiver::many::any_cells` meets its contract.
-- Assumes nothing.
use Prim.Native.Nat.{◌*◌}
use borrow.Author.Rules.{rules}
use Rattle.formats.specs.Settings.{settled_as}
use Rattle.receiver.specs.Unpacking.{used_in}
use Rattle.receiver.proofs.Unpacking.{blank_either, blank_there}
use Rattle.receiver.proofs.Spread.{cell_part, cell_long, spread_begun, spread_room, spread_blank, spread_on, spread_done}
use Rattle.receiver.proofs.many.any_cells.Goals as goal

pub loop-k-init : goal.loop-k-init
loop-k-init c = let used = used_in (settled_as c.args.set) in (
  record { samples_room = search rules; ancillary_room = search rules; marks_room = search rules },
  spread_begun (settled_as c.args.set) c.args.octets.now c.args.place c.args.records c.args.missing
      (blank_either c.args.set.format c.args.missing (c.args.records * used)) c.cleared.ensures,
  blank_there c.args.set.format c.args.missing (c.args.records * used) c.args.ancillary.now c.requires.2.ancillary_room
      c.cleared.ensures.ancillary_is,
)

pub own_entries-requires : goal.own_entries-requires
own_entries-requires c = let inv = c.loop-k.invariant in
    let less = c.loop-k-test.true in (
      c.requires.0,
      cell_long c.args.octets.now c.args.place c.args.records c.requires.1 less,
      spread_room (settled_as c.args.set) c.args.octets.now c.args.place c.args.records c.args.missing _ _ _ inv.0 inv.1 less,
      spread_blank (settled_as c.args.set) c.args.octets.now c.args.place c.args.records c.args.missing _ _ _ inv.0 inv.1 less inv.2,
    )

pub loop-k-preserved : goal.loop-k-preserved
loop-k-preserved c = let inv = c.loop-k.invariant in (
  inv.0,
  spread_on (settled_as c.args.set) c.args.octets.now c.args.place c.args.records c.args.missing _ _ _ inv.0 inv.1
      c.loop-k-test.true (cell_part c.args.octets.now c.args.place c.loop-k.k) c.own_entries.ensures
      c.own_entries.auto.samples c.own_entries.auto.ancillary c.own_entries.auto.marks,
  inv.2,
)

pub returns : goal.returns
returns c = spread_done (settled_as c.args.set) c.args.octets.now c.args.place c.args.records c.args.missing
    (blank_either c.args.set.format c.args.missing (c.args.records * used_in (settled_as c.args.set))) c.cleared.ensures
    c.loop-k.invariant.1 c.loop-k-test.false
