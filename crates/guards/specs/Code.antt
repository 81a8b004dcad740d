-- Words of the code, which document 01 doesn't have: a table of protection bits.
-- Assumes nothing.
use Rattle.std.specs.Prelude.{List, ℕ}
use Rattle.runs.specs.Runs.{tab}
use Rattle.guards.specs.Guards.{no_v, guard_of}

-- entry n: the protection bits of a subframe with no V whose sample has nine bits and is n. Nine bits and V, or nine bits alone, have those
-- of the seven that they are folded to; so entry 2n + V is that of a sample n with V (proofs/Laws: `seven_alone`, `seven_with_v`)
unfoldable pub seven_guards : List ℕ
seven_guards = tab (λ n. guard_of 9 n no_v) 128
