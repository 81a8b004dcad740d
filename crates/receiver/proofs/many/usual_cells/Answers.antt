-- `receiver::many::usual_cells` meets its contract.
-- Assumes nothing.
use mathlib.Core.Logic.{inl}
use mathlib.Core.Path.{refl}
use borrow.Author.Rules.{rules}
use Rattle.receiver.specs.Unpacking.{straight}
use Rattle.receiver.proofs.Spread.{cell_part, spread_begun, spread_on, spread_done}
use Rattle.receiver.proofs.many.usual_cells.Goals as goal

pub loop-k-init : goal.loop-k-init
loop-k-init c = (
  record { samples_room = search rules; ancillary_room = search rules; marks_room = search rules },
  spread_begun straight c.args.octets.now c.args.place c.args.records c.args.missing (inl refl) c.missing_entries.ensures,
)

pub loop-k-preserved : goal.loop-k-preserved
loop-k-preserved c = let inv = c.loop-k.invariant in (
  inv.0,
  spread_on straight c.args.octets.now c.args.place c.args.records c.args.missing _ _ _ inv.0 inv.1
      c.loop-k-test.true (cell_part c.args.octets.now c.args.place c.loop-k.k) c.own_entries.ensures
      c.own_entries.auto.samples c.own_entries.auto.ancillary c.own_entries.auto.marks,
)

pub returns : goal.returns
returns c = spread_done straight c.args.octets.now c.args.place c.args.records c.args.missing (inl refl) c.missing_entries.ensures
    c.loop-k.invariant.1 c.loop-k-test.false
