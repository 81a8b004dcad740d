-- Refusals by number, 0 standing for none.
-- Assumes nothing.
use Rattle.std.specs.Prelude.{cond, ℕ, eqb}

-- the refusal of the first checks, or where they give none that of the later ones
unfoldable pub or_else : ℕ → ℕ → ℕ
or_else first later = cond (eqb first 0) later first
