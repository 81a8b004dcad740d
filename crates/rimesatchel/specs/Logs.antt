-- What the log's calls write into the arrays lent to them, in the order of the face's table.
-- Assumes nothing.
use Rattle.std.specs.Prelude.{cond, List, [], ◌∷◌, ℕ}
use Rattle.cell_log.specs.Answers.{Header, Record}

-- `header`: place after the header, format octet, channels, order
abbrev pub header_numbers : Header → List ℕ
header_numbers h = h.place ∷ h.format ∷ h.channels ∷ h.order ∷ []

-- `record`: what, indication, where the cell's 48 octets start, the next place
abbrev pub record_numbers : Record → List ℕ
record_numbers r = r.what ∷ cond r.indication 1 0 ∷ r.start ∷ r.next ∷ []
