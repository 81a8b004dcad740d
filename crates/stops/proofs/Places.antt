-- Laws of where logs stopped in a lent run, over plain values.
-- Assumes nothing.
use mathlib.Core.List.{List}
use mathlib.Core.Path.{◌≡◌}
use Prim.Native.Nat.{ℕ, ◌+◌, ◌*◌, ◌/◌, ◌%◌, ◌≤◌, ◌<◌}
use borrow.Author.Tests.{le-leb, lt-leb}
use lib.ListN.{length, get_or, set}
use Rattle.stops.specs.declared.Stop.{Stop}
use Rattle.stops.specs.Stops.{stop_by}
use Rattle.stops.specs.Kept.{kept_with, kept_at}

module _ (run : List ℕ) (log : ℕ) where
  pub kept_past : (s : Stop) → length run / 3 ≤ log → run ≡ kept_with run log s
  unfolding kept_with
  kept_past s past = rw (le-leb (length run / 3) log past)

  pub kept_in : (s : Stop) → log < length run / 3
      → set (set (set run (3 * log) s.what) (3 * log + 1) s.refusal) (3 * log + 2) s.number ≡ kept_with run log s
  unfolding kept_with
  kept_in s here = rw (lt-leb (length run / 3) log here)

  pub none_at : length run / 3 ≤ log → stop_by 0 0 0 ≡ kept_at run log
  unfolding kept_at
  none_at past = rw (le-leb (length run / 3) log past)

  pub found_at : log < length run / 3
      → stop_by (get_or run (3 * log) 0 % 256) (get_or run (3 * log + 1) 0 % 256) (get_or run (3 * log + 2) 0) ≡ kept_at run log
  unfolding kept_at
  found_at here = rw (lt-leb (length run / 3) log here)
