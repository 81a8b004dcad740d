-- `status::check::check_character` meets its contract: the loop is the division, an octet a turn.
-- Assumes nothing.
use mathlib.Core.Path.{◌≡◌, ◌∙◌, ap}
use Prim.Native.Nat.{ℕ, ◌*◌}
use native.Mathlib.Omega.{arith}
use Rattle.runs.specs.Division.{divided}
use Rattle.runs.specs.Runs.{tab}
use Rattle.status.specs.Check.{coefficient_of, check_character, generator, turned_of}
use Rattle.status.proofs.check.check_character.Goals as goal

pub returns : goal.returns
unfolding check_character
returns c = let at_end : 8 * c.loop-k.k ≡ 192 = omega arith in
    c.turned.ensures ∙ ap turned_of (c.loop-k.invariant.1 ∙ ap (λ (k : ℕ). divided 8 generator 0 (tab (coefficient_of c.args.block) k)) at_end)
