-- `glance::among` meets its contract.
-- Assumes nothing.
use mathlib.Core.Path.{refl, sym, ◌∙◌}
use native.Mathlib.Omega.{arith}
use Rattle.glance.specs.Glance.{some}
use Rattle.glance.proofs.Some.{some_here, some_more, some_all}
use Rattle.glance.proofs.among.Goals as goal

pub loop-slot-init : goal.loop-slot-init
unfolding some
loop-slot-init c = refl

pub sounds_at-requires : goal.sounds_at-requires
sounds_at-requires c = (c.requires.0, c.requires.1, omega (arith, c.loop-slot-test.true, c.requires.2))

pub returns-then-sounds_at : goal.returns-then-sounds_at
returns-then-sounds_at c = sym (some_here _ _ c.loop-slot.slot c.loop-slot-test.true
    (sym c.sounds_at.ensures ∙ c.if-sounds_at.true))

pub loop-slot-preserved : goal.loop-slot-preserved
loop-slot-preserved c = some_more _ c.loop-slot.slot c.loop-slot.invariant (sym c.sounds_at.ensures ∙ c.if-sounds_at.false)

pub returns : goal.returns
returns c = some_all _ c.loop-slot.auto.slot-end (omega (arith, c.loop-slot-test.false)) c.loop-slot.invariant
