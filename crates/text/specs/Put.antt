-- Octets put one after the other into a lent run, as far as it goes.
-- Assumes nothing.
use Rattle.std.specs.Prelude.{false, cond, List, [], ◌∷◌, ◌≡◌, ℕ, ◌+◌, leb, ltb, length, take, set}
use Rattle.text.specs.declared.Put.{Put}

-- a run, and what is said of the octets put into it so far
pub record Filling : Type 0 where
  pub run : List ℕ
  pub past : Put

-- one octet more: at the place behind the others, or left out where the run has no such place
unfoldable pub put_one : Filling → ℕ → Filling
put_one f octet =
    cond (ltb f.past.octets (length f.run))
    (record { run = set f.run f.past.octets octet; past = record { octets = f.past.octets + 1; whole = f.past.whole } })
    (record { run = f.run; past = record { octets = f.past.octets; whole = false } })

-- octets one after the other
unfoldable pub put_all : Filling → List ℕ → Filling
put_all f [] = f
put_all f (octet ∷ octets) = put_all (put_one f octet) octets

-- a run and what was said before, a run and what is said after, and the octets that were put
pub record Puts (before : List ℕ) (at : Put) (after : List ℕ) (past : Put) (octets : List ℕ) : Type 0 where
  pub is : record { run = after; past = past } ≡ put_all (record { run = before; past = at }) octets

-- what is said of octets put into a run of so many entries from its start: how many it holds, and whether it holds all
abbrev pub listed : ℕ → List ℕ → Put
listed room octets = record { octets = length (take room octets); whole = leb (length octets) room }
