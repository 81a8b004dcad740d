-- The loop of `glance::among`: none before this slot.
use mathlib.Core.Bool.{false}
use mathlib.Core.Path.{◌≡◌}
use Rattle.glance.specs.Glance.{some}
use Rattle.glance.specs.Code.{sound_in}
use Rattle.glance.proofs.among.Given as goal

abbrev pub invariant-loop-slot : goal.invariant-loop-slot
invariant-loop-slot l = some (sound_in l.format l.cell) l.slot ≡ false
