-- The whole records of a log, document 01, "The log", and where a walk along them stops. All is said of the octets from some place
-- of a log on, and never of the place.
-- Assumes nothing.
use Rattle.std.specs.Prelude.{Bool, cond, List, [], ◌∷◌, ◌++◌, ◌≡◌, ℕ, zero, suc, eqb, length, drop}
use Rattle.cell_log.specs.Records.{record_at, cell_at}
use Rattle.cell_log.specs.Written.{record_octets}

-- a whole record: "the indication, 0 or 1, and 48 octets"
pub record Whole : Type 0 where
  pub indication : Bool
  pub cell : List ℕ

-- octets that begin with a whole record, and that record
unfoldable pub is_whole : List ℕ → Bool
is_whole octets = eqb (record_at octets 0).what 1

unfoldable pub front_of : List ℕ → Whole
front_of octets = record { indication = (record_at octets 0).indication; cell = cell_at octets 0 }

-- whole records one after the other, and the octets behind them
pub record Walk : Type 0 where
  pub records : List Whole
  pub rest : List ℕ

abbrev pub stopped : List ℕ → Walk
stopped octets = record { records = []; rest = octets }

-- a walk with more records before it
abbrev pub behind : List Whole → Walk → Walk
behind records walk = record { records = records ++ walk.records; rest = walk.rest }

-- at most so many records
unfoldable pub walk_within : ℕ → List ℕ → Walk
walk_within zero octets = stopped octets
walk_within (suc most) octets =
    cond (is_whole octets) (behind (front_of octets ∷ []) (walk_within most (drop 49 octets))) (stopped octets)

-- up to the first framing fault or the end: there are fewer records than octets
unfoldable pub walk_in : List ℕ → Walk
walk_in octets = walk_within (length octets) octets

-- all whole records
abbrev pub records_in : List ℕ → List Whole
records_in octets = (walk_in octets).records

-- what is left where the walk stops: from the first octet of a faulty record on, and nothing at the end
abbrev pub rest_in : List ℕ → List ℕ
rest_in octets = (walk_in octets).rest

-- the framing fault that stops the walk, 11 or 12, and 0 at the end
abbrev pub fault_in : List ℕ → ℕ
fault_in octets = (record_at (rest_in octets) 0).refusal

-- records as a log holds them
unfoldable pub octets_in : List Whole → List ℕ
octets_in [] = []
octets_in (r ∷ rs) = record_octets r.indication r.cell ++ octets_in rs

-- a cell has 48 octets
abbrev pub Framed : Whole → Type 0
Framed r = length r.cell ≡ 48
