-- Log numbers, document 01, "The log": "groups of seven bits, low group first, top bit set where more follow, shortest form, at
-- most three groups".
-- Assumes nothing.
use Rattle.std.specs.Prelude.{Bool, cond, ◌&&◌, ◌||◌, List, [], ◌∷◌, ℕ, zero, suc, ◌+◌, ◌*◌, ◌-◌, ◌/◌, ◌%◌, eqb, ltb, length, get_or}
use Rattle.cell_log.specs.Answers.{Number}

-- "top bit set where more follow": how many groups the number at a place has, 4 standing for more than three
unfoldable pub groups_at : List ℕ → ℕ → ℕ
groups_at log at =
    cond (ltb (get_or log at 0) 128) 1 (cond (ltb (get_or log (at + 1) 0) 128) 2 (cond (ltb (get_or log (at + 2) 0) 128) 3 4))

-- "cut": the log ends before the last group
unfoldable pub is_cut : List ℕ → ℕ → Bool
is_cut log at = ltb (length log) (at + groups_at log at)

-- "over three groups"
unfoldable pub is_long : List ℕ → ℕ → Bool
is_long log at = ltb 3 (groups_at log at)

-- "not shortest": the last of several groups is 0
unfoldable pub is_padded : List ℕ → ℕ → Bool
is_padded log at = ltb 1 (groups_at log at) && eqb (get_or log (at + groups_at log at - 1) 0) 0

-- seven bits of a group
abbrev pub group_at : List ℕ → ℕ → ℕ
group_at log at = get_or log at 0 % 128

-- "low group first": the value of one, two or three groups
unfoldable pub value_at : ℕ → List ℕ → ℕ → ℕ
value_at groups log at =
    cond (eqb groups 1) (group_at log at)
    (cond (eqb groups 2) (group_at log at + group_at log (at + 1) * 128)
    (group_at log at + group_at log (at + 1) * 128 + group_at log (at + 2) * 16384))

abbrev pub number : ℕ → ℕ → Number
number value next = record { refusal = 0; value = value; next = next }

abbrev pub no_number_of : Number
no_number_of = record { refusal = 11; value = 0; next = 0 }

-- the number at a place, and the place after it; 11 for "a log number not shortest, over three groups or cut"
unfoldable pub number_at : List ℕ → ℕ → Number
number_at log at =
    cond (is_cut log at || (is_long log at || is_padded log at)) no_number_of
    (number (value_at (groups_at log at) log at) (at + groups_at log at))

-- a number's shortest form, where so many groups hold it
unfoldable pub groups_of : ℕ → ℕ → List ℕ
groups_of zero n = []
groups_of (suc groups) n = cond (ltb n 128) (n ∷ []) ((128 + n % 128) ∷ groups_of groups (n / 128))
