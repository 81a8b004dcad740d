-- `glance::number_in` meets its contract.
-- Assumes nothing.
use native.Mathlib.Omega.{arith}
use Prim.Native.Nat.{◌+◌}
use Rattle.glance.proofs.Laws.{reads_begun, reads_small, reads_on, reads_done}
use Rattle.glance.proofs.number_in.Goals as goal

pub loop-i-init : goal.loop-i-init
loop-i-init c = reads_begun _ _ _

pub overflow_mul-number : goal.overflow_mul-number
overflow_mul-number c = omega (arith, reads_small _ _ _ c.loop-i.invariant c.requires.0 c.loop-i-test.true)

pub overflow_add-number : goal.overflow_add-number
overflow_add-number c = omega (
  arith,
  c.from.ensures,
  c.type_inv.cell (c.args.at + c.loop-i.i),
  reads_small _ _ _ c.loop-i.invariant c.requires.0 c.loop-i-test.true,
)

pub loop-i-preserved : goal.loop-i-preserved
loop-i-preserved c = reads_on _ _ _ c.loop-i.invariant c.requires.0 c.requires.1 c.loop-i-test.true c.from.ensures
    (omega (arith, c.from.ensures, c.type_inv.cell (c.args.at + c.loop-i.i)))

pub returns : goal.returns
returns c = reads_done _ _ _ c.loop-i.invariant c.requires.0 c.loop-i-test.false
