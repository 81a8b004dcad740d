-- Where logs stopped, three numbers each, one log behind the other in a lent run.
-- Assumes nothing.
use Rattle.std.specs.Prelude.{cond, List, ℕ, ◌+◌, ◌*◌, ◌/◌, ◌%◌, leb, length, get_or, set}
use Rattle.stops.specs.declared.Stop.{Stop}
use Rattle.stops.specs.Stops.{stop_by}

-- the run with a log's three numbers in their place, as far as it goes
unfoldable pub kept_with : List ℕ → ℕ → Stop → List ℕ
kept_with run log s =
    cond (leb (length run / 3) log) run
    (set (set (set run (3 * log) s.what) (3 * log + 1) s.refusal) (3 * log + 2) s.number)

-- and what they say
unfoldable pub kept_at : List ℕ → ℕ → Stop
kept_at run log =
    cond (leb (length run / 3) log) (stop_by 0 0 0)
    (stop_by (get_or run (3 * log) 0 % 256) (get_or run (3 * log + 1) 0 % 256) (get_or run (3 * log + 2) 0))
