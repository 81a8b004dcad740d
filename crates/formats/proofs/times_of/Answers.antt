-- `formats::times_of` meets its contract.
-- Assumes nothing.
use mathlib.Core.Path.{sym, ◌∙◌, ap}
use Prim.Native.Nat.{ℕ, ◌/◌}
use native.Mathlib.Nat.{div-one}
use Rattle.formats.proofs.times_of.Goals as goal

pub returns-then-channels-eq1 : goal.returns-then-channels-eq1
returns-then-channels-eq1 c = let slots = c.args.slots in sym (div-one slots) ∙ ap (λ (n : ℕ). slots / n) (sym c.if-channels-eq1.true)

pub returns-then-channels-eq2 : goal.returns-then-channels-eq2
returns-then-channels-eq2 c = let slots = c.args.slots in ap (λ (n : ℕ). slots / n) (sym c.if-channels-eq2.true)
