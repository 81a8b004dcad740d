-- What a step along a piece answers, and what the lent array holds afterwards.
-- Assumes nothing.
use Rattle.std.specs.Prelude.{◌≡◌, ℕ, zero, suc, ◌+◌, ◌-◌, ◌%◌, ◌^◌, Bool, cond, not, ◌&&◌, ◌||◌, Option, Some, None, List, [], ◌∷◌, ◌++◌, length, take, drop, ◌==◌, nat_le, nat_lt, slice_index, slice_set}
use Rattle.cell_log.specs.Records.{header_of}
use Rattle.reading.specs.Records.{front_of}
use Rattle.pieces.specs.Found.{Found}
use Rattle.pieces.specs.declared.Standing.{Standing}
use Rattle.pieces.specs.Limit.{Part, head, whole}
use Rattle.pieces.specs.Taken.{Taking, fault_part, handed, end_parts}

-- before the first octet of a log that may have so many
abbrev pub start_of : ℕ → Standing
start_of limit = record { stage = 0; fault = 0; count = 0; left = limit; records = 0 }

-- how many octets of the array are held: at most eight of a header, and 48 of a record
unfoldable pub held_count : Standing → ℕ
held_count s = cond (s.stage == 0) (s.count % 9) (s.count % 49)

-- where the log stands: the octets held are the first of the array
unfoldable pub taking_of : Standing → List ℕ → Taking
taking_of s held =
    record { stage = s.stage; fault = s.fault; left = s.left; records = s.records; part = take (held_count s) held }

-- a fault is found at the piece's end: what is behind it isn't read
abbrev pub fault_found : Standing → ℕ → ℕ → ℕ → Found
fault_found s stage refusal end =
    record {
      what = 4;
      next = end;
      standing = record { stage = stage; fault = refusal; count = 0; left = s.left; records = s.records };
    }

-- an octet more of the header, with the array as it is then
unfoldable pub header_found : Standing → List ℕ → ℕ → ℕ → Found
header_found s held next end =
    cond (s.count % 9 == 2 && (header_of (take 3 held)).refusal == 0)
    (record { what = 1; next = next; standing = record { stage = 1; fault = s.fault; count = 0; left = s.left - 3; records = s.records } })
    (cond (s.count % 9 == 8)
    (fault_found s 2 (header_of (take 9 held)).refusal end)
    (record { what = 0; next = next; standing = record { stage = 0; fault = s.fault; count = s.count % 9 + 1; left = s.left; records = s.records } }))

-- an octet more of a record
unfoldable pub record_found : Standing → ℕ → Found
record_found s next =
    cond (s.count % 49 == 48)
    (record { what = 3; next = next; standing = record { stage = 1; fault = s.fault; count = 0; left = s.left - 1; records = (s.records + 1) % 2 ^ 64 } })
    (record { what = 0; next = next; standing = record { stage = 1; fault = s.fault; count = s.count % 49 + 1; left = s.left - 1; records = s.records } })

-- a record begins here and lies whole in what is ahead, and within the limit
unfoldable pub lies_whole : ℕ → ℕ → ℕ → Bool
lies_whole count ahead left = count == 0 && (nat_le 49 ahead && nat_le 49 left)

abbrev pub whole_found : Standing → ℕ → Found
whole_found s next =
    record { what = 2; next = next; standing = record { stage = 1; fault = s.fault; count = 0; left = s.left - 49; records = (s.records + 1) % 2 ^ 64 } }

-- 11 at once: a record's first octet is above 1
unfoldable pub begins_above : ℕ → ℕ → Bool
begins_above count octet = count == 0 && nat_lt 1 octet

unfoldable pub next_of : Standing → List ℕ → List ℕ → ℕ → Found
next_of s held piece place =
    cond (nat_le (length piece) place) (record { what = 0; next = place; standing = s })
    (cond (s.stage == 0) (header_found s (slice_set held (s.count % 9) (slice_index piece place)) (place + 1) (length piece))
    (cond (not (s.stage == 1)) (record { what = 0; next = length piece; standing = s })
    (cond (s.left == 0) (fault_found s 3 13 (length piece))
    (cond (begins_above (s.count % 49) (slice_index piece place)) (fault_found s 3 11 (length piece))
    (cond (lies_whole (s.count % 49) (length piece - place) s.left) (whole_found s (place + 49))
    (record_found s (place + 1)))))))

-- the array afterwards: an octet more is held, in the header or in a record that doesn't lie whole in the piece
unfoldable pub held_now : Standing → List ℕ → List ℕ → ℕ → List ℕ
held_now s held piece place =
    cond (nat_le (length piece) place) held
    (cond (s.stage == 0) (slice_set held (s.count % 9) (slice_index piece place))
    (cond (not (s.stage == 1)) held
    (cond (s.left == 0) held
    (cond (begins_above (s.count % 49) (slice_index piece place)) held
    (cond (lies_whole (s.count % 49) (length piece - place) s.left) held
    (slice_set held (s.count % 49) (slice_index piece place)))))))

-- the whole promise of a step: the answer, and what the lent array holds afterwards
pub record Steps (s : Standing) (held piece : List ℕ) (place : ℕ) (answer : Found) (after : List ℕ) : Type 0 where
  pub answered : answer ≡ next_of s held piece place
  pub left : after ≡ held_now s held piece place

-- what is found, with the array as it is afterwards
unfoldable pub found_parts : Found → List ℕ → List ℕ → ℕ → List Part
found_parts found held piece place =
    cond (found.what == 1) (head (header_of (take 3 held)) ∷ [])
    (cond (found.what == 2) (whole (front_of (take 49 (drop place piece))) ∷ [])
    (cond (found.what == 3) (whole (front_of held) ∷ [])
    (cond (found.what == 4) (fault_part found.standing.stage found.standing.fault ∷ []) [])))

-- what is found is a record
unfoldable pub is_record : ℕ → Bool
is_record what = what == 2 || what == 3

-- it lies in a piece of this size, at this place
unfoldable pub in_piece : ℕ → ℕ → ℕ → Bool
in_piece what size place = what == 2 && nat_le (place + 49) size

-- its octets: those in the piece, or those held
unfoldable pub found_octets : ℕ → List ℕ → List ℕ → ℕ → List ℕ
found_octets what held piece place = cond (in_piece what (length piece) place) (take 49 (drop place piece)) held

-- and nothing where what was found is no record
abbrev pub octets_found : ℕ → List ℕ → List ℕ → ℕ → Option (List ℕ)
octets_found what held piece place = cond (is_record what) (Some (found_octets what held piece place)) None

-- where a log stands behind a piece: the standing, and what the lent array holds
pub record Stood : Type 0 where
  pub standing : Standing
  pub held : List ℕ

-- at most so many steps along a piece, from a place on
unfoldable pub steps_from : ℕ → Standing → List ℕ → List ℕ → ℕ → Stood
steps_from zero s held piece place = record { standing = s; held = held }
steps_from (suc most) s held piece place =
    cond (nat_lt place (length piece))
    (steps_from most (next_of s held piece place).standing (held_now s held piece place) piece (next_of s held piece place).next)
    (record { standing = s; held = held })

-- steps along a whole piece: each takes an octet at least
unfoldable pub stood_of : Standing → List ℕ → List ℕ → Stood
stood_of s held piece = steps_from (length piece) s held piece 0

-- a log in pieces, each taken where the one before it left off: what is handed out up to the end
unfoldable pub handed_over : Standing → List ℕ → List (List ℕ) → List Part
handed_over s held [] = end_parts (taking_of s held)
handed_over s held (piece ∷ pieces) =
    handed (taking_of s held) piece ++ handed_over (stood_of s held piece).standing (stood_of s held piece).held pieces

-- and where it stands then
unfoldable pub stood_over : Standing → List ℕ → List (List ℕ) → Stood
stood_over s held [] = record { standing = s; held = held }
stood_over s held (piece ∷ pieces) = stood_over (stood_of s held piece).standing (stood_of s held piece).held pieces
