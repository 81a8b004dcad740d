-- `receiver::entries::split_bare` meets its contract.
-- Assumes nothing.
use mathlib.Core.Path.{ap}
use Prim.Native.Nat.{ℕ, ◌/◌, ◌%◌}
use Rattle.receiver.proofs.Unpacking.{held_on, held_done, held_ahead}
use Rattle.receiver.proofs.entries.split_bare.Goals as goal

pub loop-i-preserved : goal.loop-i-preserved
loop-i-preserved c = let a = c.args in
    let room = c.requires in
    let less = c.loop-i-test.true in
    let inv = c.loop-i.invariant in
    let was = held_ahead (λ x. x / 16) a.samples.now a.samples.now a.at a.used room.0 inv.0 in (
      held_on (λ x. x / 16) a.samples.now a.samples.now a.at a.used room.0 inv.0 less (ap (λ (x : ℕ). x / 16) was),
      held_on (λ x. x % 16) a.samples.now a.ancillary.now a.at a.used room.1 inv.1 less (ap (λ (x : ℕ). x % 16) was),
    )

pub returns : goal.returns
returns c = let a = c.args in
    let room = c.requires in (
      held_done (λ x. x / 16) a.samples.now a.samples.now a.at a.used room.0 c.loop-i.invariant.0 c.loop-i-test.false,
      held_done (λ x. x % 16) a.samples.now a.ancillary.now a.at a.used room.1 c.loop-i.invariant.1 c.loop-i-test.false,
    )
