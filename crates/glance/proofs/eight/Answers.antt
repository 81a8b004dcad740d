-- `glance::eight` meets its contract.
-- Assumes nothing.
use mathlib.Core.Path.{◌≡◌, subst}
use Prim.Native.Nat.{ℕ, ◌+◌}
use native.Mathlib.Omega.{arith}
use Rattle.glance.specs.Code.{Eight}
use Rattle.glance.proofs.Quiet.{eight_begun, eight_on}
use Rattle.glance.proofs.eight.Goals as goal

pub loop-i-init : goal.loop-i-init
loop-i-init c = eight_begun _ _

pub loop-i-preserved : goal.loop-i-preserved
loop-i-preserved c =
    eight_on _ _ c.loop-i.invariant c.loop-i-test.true c.from.ensures
    (omega (arith, c.from.ensures, c.type_inv.cell (c.args.at + c.loop-i.i)))

pub returns : goal.returns
returns c =
    let l = c.loop-i in
    let all : l.i ≡ 8 = omega (arith, l.auto.i-end, c.loop-i-test.false) in
    subst (λ (n : ℕ). Eight c.args.cell.now c.args.at n l.number) all l.invariant
