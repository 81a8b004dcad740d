-- What a receiver reports of the cells that it takes one after the other, and the slips that are told by it.
-- Assumes nothing.
use Rattle.std.specs.Prelude.{cond, List, [], ◌∷◌, ◌≡◌, ℕ, ◌+◌, ◌*◌, ◌/◌, ◌%◌, ◌-◌, ◌≤◌, eqb}
use Rattle.slips.specs.Slips.{slip_of}
use Rattle.slips.specs.Watch.{Watch, step_of}

pub record Report : Type 0 where
  pub missing : ℕ
  pub number : ℕ
  pub second : ℕ

-- what two cells tell that are taken one after the other: of each cell but the first, how many cells more are missing before it
unfoldable pub told_after : Report → List Report → List ℕ
told_after last [] = []
told_after last (r ∷ rs) = slip_of last.number last.second r.number r.second ∷ told_after r rs

unfoldable pub told_of : List Report → List ℕ
told_of [] = []
told_of (r ∷ rs) = 0 ∷ told_after r rs

-- what the watch tells at each cell: so many cells more are missing before the cell taken before it
unfoldable pub watched_from : Watch → List Report → List ℕ
watched_from w [] = []
watched_from w (r ∷ rs) =
    cond (eqb (step_of w r.missing r.number r.second).what 1) (step_of w r.missing r.number r.second).cells 0
    ∷ watched_from (step_of w r.missing r.number r.second).watch rs

-- "all zeros at first"
abbrev pub no_watch : Watch
no_watch = record { started = 0; number = 0; sure = 0; second = 0; may = 0; waits = 0; other = 0 }

-- `lost` cells were sent before each cell since the one taken before it: what is told is a multiple of 16 and at most the slip, which
-- is `lost` less those that the numbers tell
unfoldable pub NeverLonger : List ℕ → List ℕ → Type 0
NeverLonger [] [] = Unit {0}
NeverLonger [] (k ∷ ks) = ⊥
NeverLonger (n ∷ ns) [] = ⊥
NeverLonger (n ∷ ns) (k ∷ ks) = (n % 16 ≡ 0) × (n ≤ 16 * (k / 16)) × NeverLonger ns ks

-- the same of the watch, one cell later: what it tells is at most what slipped up to the cell before and isn't told yet, `spare`
unfoldable pub NeverAhead : ℕ → List ℕ → List ℕ → Type 0
NeverAhead spare [] [] = Unit {0}
NeverAhead spare [] (k ∷ ks) = ⊥
NeverAhead spare (n ∷ ns) [] = ⊥
NeverAhead spare (n ∷ ns) (k ∷ ks) = (n % 16 ≡ 0) × (n ≤ spare) × NeverAhead (spare - n + 16 * (k / 16)) ns ks

-- "each slip has two taken cells in step before it and two behind it": of the cells after two that are in step
unfoldable pub Spaced : List ℕ → Type 0
Spaced [] = Unit {0}
Spaced (k ∷ []) = k / 16 ≡ 0
Spaced (k ∷ j ∷ ks) = (k / 16 ≡ 0 → Spaced (j ∷ ks)) × ((k / 16 ≡ 0 → ⊥) → (j / 16 ≡ 0) × Spaced ks)

-- and of all cells: no slip before the second one, and none is possible before the first
unfoldable pub SpacedOut : List ℕ → Type 0
SpacedOut [] = Unit {0}
SpacedOut (k ∷ []) = Unit {0}
SpacedOut (k ∷ j ∷ ks) = (j / 16 ≡ 0) × Spaced ks
