-- Why `slips_exact` counts the cells between those that are taken, and not the lost ones in a row.
-- Assumes nothing.
use mathlib.Core.List.{List, [], ◌∷◌, ◌++◌, map}
use mathlib.Core.Path.{◌≡◌, refl}
use Prim.Native.Nat.{ℕ, zero, suc}
use lib.ListN.{replicate}
use Rattle.reading.specs.Totals.{those}
use Rattle.line.specs.Calls.{SendCall}
use Rattle.line.specs.Line.{Fate, dropped, unaltered, Trip, longest}
use Rattle.line.specs.Losses.{story_from}
use Rattle.line.specs.Seconds.{lost_before}

-- fifteen lost and one unaltered, so many times
unfoldable pub rounds : ℕ → List Fate
rounds zero = []
rounds (suc n) = replicate 15 dropped ++ (unaltered 0 ∷ rounds n)

abbrev pub nine_rounds : SendCall → List Trip
nine_rounds s = map (λ f. record { sent = s; fate = f }) (unaltered 0 ∷ (rounds 9 ++ (unaltered 0 ∷ [])))

-- no row of lost cells is longer than fifteen, each unaltered one among them is refused 9, and 144 cells are sent between the two that
-- are taken
pub rows_bound_nothing : (s : SendCall) → (longest 0 (nine_rounds s) ≡ 15) × (lost_before (nine_rounds s) ≡ 0 ∷ 144 ∷ [])
unfolding rounds longest story_from those
rows_bound_nothing s = (refl, refl)
