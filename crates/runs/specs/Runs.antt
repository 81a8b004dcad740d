-- Runs that a loop fills from the front, octets of a number, and what a lent run holds after it was written into.
-- Assumes nothing.
use Rattle.std.specs.Prelude.{List, [], ◌∷◌, ◌++◌, ℕ, zero, suc, ◌+◌, ◌*◌, ◌/◌, ◌%◌, ◌^◌, length, take, drop}

-- the n entries f 0, f 1, .. one after the other
unfoldable pub tab : (ℕ → ℕ) → ℕ → List ℕ
tab f zero = []
tab f (suc n) = tab f n ++ (f n ∷ [])

-- the n parts g 0, g 1, .. joined in that order
unfoldable pub joined : (ℕ → List ℕ) → ℕ → List ℕ
joined g zero = []
joined g (suc n) = joined g n ++ g n

-- a number in w octets, the highest first
unfoldable pub octets_of : ℕ → ℕ → List ℕ
octets_of zero n = []
octets_of (suc w) n = n / 256 ^ w % 256 ∷ octets_of w n

-- the number that octets make after those already read, the highest first
unfoldable pub read_on : ℕ → List ℕ → ℕ
read_on n [] = n
read_on n (x ∷ xs) = read_on (n * 256 + x) xs

-- the number that octets make, the highest first
abbrev pub number_of : List ℕ → ℕ
number_of xs = read_on 0 xs

-- a lent run after entries were written from its start: those, and then what it held past them
unfoldable pub over : List ℕ → List ℕ → List ℕ
over new run = new ++ drop (length new) run

-- a lent run after entries were written from a place on: what it held before them, those, and what it held past them
abbrev pub written : List ℕ → ℕ → List ℕ → List ℕ
written run at new = take at run ++ new ++ drop (at + length new) run
