-- `units::unpack::number_at` meets its contract: the octets are read one after the other.
-- Assumes nothing.
use mathlib.Core.Path.{◌≡◌, ◌∙◌}
use Prim.Native.Nat.{◌-◌, ◌+◌, ◌<◌}
use native.Mathlib.Omega.{arith}
use lib.ListN.{get_or, drop, length-take}
use lib.Seq.{get_or-take, get_or-drop}
use Rattle.units.proofs.Packing.{reading_begun, reading_fits, reading_on}
use Rattle.units.proofs.unpack.number_at.Goals as goal
use Rattle.units.proofs.unpack.number_at.Goals.{After-from, In-loop-octet}

pub loop-octet-init : goal.loop-octet-init
loop-octet-init c = reading_begun c.args.unit.now c.args.at

-- the octet is one of the subframe's
less : (c : In-loop-octet) → c.loop-octet.octet-index < c.args.width
less c = let a = c.args in omega (arith, c.loop-octet-test.true, length-take (a.at + a.width - a.at) (drop a.at a.unit.now))

pub overflow_mul-number : goal.overflow_mul-number
overflow_mul-number c = record { fits = omega (arith, reading_fits c.args.unit.now c.args.at c.loop-octet.invariant (omega (arith, less c, c.requires.1))) }

-- it stands in the unit
octet_is : (c : After-from) → c.from.result ≡ get_or c.args.unit.now (c.args.at + c.loop-octet.octet-index) 0
octet_is c = let a = c.args in
    let i = c.loop-octet.octet-index in
    c.from.ensures
    ∙ get_or-take (a.at + a.width - a.at) (drop a.at a.unit.now) i 0 (omega (arith, less (goal.at.After-from c).In-loop-octet))
    ∙ get_or-drop a.at a.unit.now i 0

small : (c : After-from) → c.from.result < 256
small c = omega (arith, octet_is c, (c.type_inv.unit (c.args.at + c.loop-octet.octet-index)).fits)

pub overflow_add-number : goal.overflow_add-number
overflow_add-number c = record {
  fits = omega (
    arith,
    small c,
    reading_fits c.args.unit.now c.args.at c.loop-octet.invariant (omega (arith, less (goal.at.overflow_add-number c).In-loop-octet, c.requires.1)),
  );
}

pub loop-octet-preserved : goal.loop-octet-preserved
loop-octet-preserved c = let a = c.args in
    reading_on a.unit.now a.at c.loop-octet.invariant (omega (arith, less (goal.at.loop-octet-preserved c).In-loop-octet, c.requires.0))
    (octet_is c) (small c)
