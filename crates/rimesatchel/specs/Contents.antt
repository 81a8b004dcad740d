-- What the call that asks what a log holds writes into the array lent to it, in the order of the face's table.
-- Assumes nothing.
use Rattle.std.specs.Prelude.{cond, List, [], ◌∷◌, ℕ}
use Rattle.presence.specs.declared.Presence.{Presence}

-- `answer`: yes or no; the first such record, or how many whole records were read
abbrev pub presence_numbers : Presence → List ℕ
presence_numbers p = cond p.found 1 0 ∷ p.number ∷ []
