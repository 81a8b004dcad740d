-- The answer for a log that is taken in pieces: what is known behind each part of it.
-- Assumes nothing.
use Rattle.std.specs.Prelude.{◌≡◌, ℕ, ◌+◌, ◌%◌, ◌^◌, Bool, true, false, cond, not, ◌&&◌, List, [], ◌∷◌, nat_lt}
use Rattle.cell_log.specs.Answers.{Header}
use Rattle.receiver.specs.Receiver.{opened_of}
use Rattle.reading.specs.Heard.{Heard, hear, onward}
use Rattle.reading.specs.Reading.{fresh_of}
use Rattle.reading.specs.Records.{Whole}
use Rattle.pieces.specs.Limit.{Part, head, whole, refused, broken, done}
use Rattle.pieces.specs.Steps as pieces
use Rattle.pieces.specs.Steps.{taking_of, stood_of}
use Rattle.pieces.specs.Taken.{handed, end_parts}
use Rattle.presence.specs.declared.Presence.{Presence}
use Rattle.presence.specs.declared.Search.{Search}
use Rattle.presence.specs.declared.Sought.{Sought}
use Rattle.presence.specs.Presence.{sounds}

-- "It should stop at the first one": more octets can change the answer until a record says yes, or a fault ends the log, stages 2
-- and 3
unfoldable pub reads_on : Search → Bool
reads_on s = not s.sought.found && nat_lt s.standing.stage 2

-- a receiver opened by a header, and nothing found yet
abbrev pub fresh_sought : Header → Sought
fresh_sought header = record { state = fresh_of header; refusal = 0; found = false; number = 0 }

-- past a record that was heard. Its number is one of 64 bits; the theorem of the answer says that it never wraps.
unfoldable pub past_heard : Sought → Heard → Sought
past_heard t h =
    cond (sounds h)
    (record { state = onward h; refusal = t.refusal; found = true; number = t.number })
    (record { state = onward h; refusal = t.refusal; found = false; number = (t.number + 1) % 2 ^ 64 })

-- "It should stop at the first one": past a yes nothing changes
unfoldable pub past_record : Sought → Whole → Sought
past_record t w = cond t.found t (past_heard t (hear t.state w))

unfoldable pub past_part : Sought → Part → Sought
past_part t (head h) = fresh_sought h
past_part t (whole w) = past_record t w
past_part t (refused refusal) = record { state = t.state; refusal = refusal; found = t.found; number = t.number }
past_part t (broken refusal) = t
past_part t done = t

unfoldable pub sought_of : Sought → List Part → Sought
sought_of t [] = t
sought_of t (p ∷ ps) = sought_of (past_part t p) ps

-- the answer then
abbrev pub told_by : Sought → Presence
told_by t = record { refusal = t.refusal; found = t.found; number = t.number }

-- before the first octet. No log is as long as the limit.
abbrev pub no_sought : Sought
no_sought = record { state = (opened_of 0 0 0).state; refusal = 0; found = false; number = 0 }

abbrev pub search_start : Search
search_start = record { standing = pieces.start_of 18446744073709551615; sought = no_sought }

-- behind a piece
abbrev pub search_after : Search → List ℕ → List ℕ → Search
search_after s held piece =
    record {
      standing = (stood_of s.standing held piece).standing;
      sought = sought_of s.sought (handed (taking_of s.standing held) piece);
    }

-- the whole promise of taking a piece: the search to go on with, and what the lent array holds afterwards
pub record Takes (s : Search) (held piece : List ℕ) (answer : Search) (held_after : List ℕ) : Type 0 where
  pub goes_on : answer ≡ search_after s held piece
  pub holds : held_after ≡ (stood_of s.standing held piece).held

-- the answer for a log that ends here
abbrev pub answer_at_end : Search → List ℕ → Presence
answer_at_end s held = told_by (sought_of s.sought (end_parts (taking_of s.standing held)))

-- a log in pieces, each taken where the one before it left off
unfoldable pub answer_over : Search → List ℕ → List (List ℕ) → Presence
answer_over s held [] = answer_at_end s held
answer_over s held (piece ∷ pieces) = answer_over (search_after s held piece) (stood_of s.standing held piece).held pieces
