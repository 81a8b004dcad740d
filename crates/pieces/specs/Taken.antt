-- A log taken octet by octet: what is held of a part that isn't whole yet, and what is handed out as soon as it is.
-- Assumes nothing.
use Rattle.std.specs.Prelude.{ℕ, ◌+◌, ◌-◌, ◌%◌, ◌^◌, cond, ◌&&◌, List, [], ◌∷◌, ◌++◌, length, ◌==◌, nat_lt}
use Rattle.cell_log.specs.Records.{header_of}
use Rattle.reading.specs.Records.{front_of}
use Rattle.pieces.specs.Limit.{Part, head, whole, refused, broken, end_part}

-- where a log stands. The stage: 0 in the header, 1 among the records, 2 the header is refused, 3 a record is broken; the refusal; how
-- many octets the limit leaves, in the header those of the whole log; how many records were handed out; the octets held.
pub record Taking : Type 0 where
  pub stage : ℕ
  pub fault : ℕ
  pub left : ℕ
  pub records : ℕ
  pub part : List ℕ

-- before the first octet of a log that may have so many
abbrev pub fresh_taking : ℕ → Taking
fresh_taking limit = record { stage = 0; fault = 0; left = limit; records = 0; part = [] }

-- what an octet does: where the log stands behind it, and what is handed out
pub record Took : Type 0 where
  pub taking : Taking
  pub parts : List Part

abbrev pub quietly : Taking → Took
quietly t = record { taking = t; parts = [] }

-- the fault of a stage
abbrev pub fault_part : ℕ → ℕ → Part
fault_part stage refusal = cond (stage == 2) (refused refusal) (broken refusal)

-- a fault ends the log: nothing is held any more
abbrev pub faulty : Taking → ℕ → ℕ → Took
faulty t stage refusal =
    record {
      taking = record { stage = stage; fault = refusal; left = t.left; records = t.records; part = [] };
      parts = fault_part stage refusal ∷ [];
    }

-- the header, with the octets held of it now. A header that is taken has three octets; nine say by what another is refused.
unfoldable pub in_header : Taking → List ℕ → Took
in_header t part =
    cond (length part == 3 && (header_of part).refusal == 0)
    (record {
      taking = record { stage = 1; fault = t.fault; left = t.left - 3; records = t.records; part = [] };
      parts = head (header_of part) ∷ [];
    })
    (cond (length part == 9)
    (faulty t 2 (header_of part).refusal)
    (quietly (record { stage = 0; fault = t.fault; left = t.left; records = t.records; part = part })))

-- a record: 13 for an octet past the limit, whatever it is; 11 at once for a first octet above 1; whole with 49 octets
unfoldable pub in_record : Taking → ℕ → Took
in_record t octet =
    cond (t.left == 0) (faulty t 3 13)
    (cond (length t.part == 0 && nat_lt 1 octet) (faulty t 3 11)
    (cond (length t.part == 48)
    (record {
      taking = record { stage = 1; fault = t.fault; left = t.left - 1; records = (t.records + 1) % 2 ^ 64; part = [] };
      parts = whole (front_of (t.part ++ (octet ∷ []))) ∷ [];
    })
    (quietly
    (record { stage = 1; fault = t.fault; left = t.left - 1; records = t.records; part = t.part ++ (octet ∷ []) }))))

-- after a fault nothing is read
unfoldable pub one : Taking → ℕ → Took
one t octet =
    cond (t.stage == 0) (in_header t (t.part ++ (octet ∷ [])))
    (cond (t.stage == 1) (in_record t octet) (quietly t))

-- behind octets, and what they hand out
unfoldable pub after : Taking → List ℕ → Taking
after t [] = t
after t (octet ∷ octets) = after (one t octet).taking octets

unfoldable pub handed : Taking → List ℕ → List Part
handed t [] = []
handed t (octet ∷ octets) = (one t octet).parts ++ handed (one t octet).taking octets

-- the refusal at the log's end (0: none): a header that isn't taken by then; 12 for a record that is cut
unfoldable pub end_fault : Taking → ℕ
end_fault t =
    cond (t.stage == 0) (header_of t.part).refusal
    (cond (t.stage == 1) (cond (nat_lt 0 (length t.part)) 12 0) 0)

-- what is handed out then, where no fault was before
unfoldable pub end_parts : Taking → List Part
end_parts t =
    cond (t.stage == 0) (refused (header_of t.part).refusal ∷ [])
    (cond (t.stage == 1) (end_part (cond (nat_lt 0 (length t.part)) 12 0)) [])

-- a log in pieces: the octets of all of them, where it stands behind them, and what is handed out up to the end
unfoldable pub joined_of : List (List ℕ) → List ℕ
joined_of [] = []
joined_of (piece ∷ pieces) = piece ++ joined_of pieces

unfoldable pub after_all : Taking → List (List ℕ) → Taking
after_all t [] = t
after_all t (piece ∷ pieces) = after_all (after t piece) pieces

unfoldable pub handed_all : Taking → List (List ℕ) → List Part
handed_all t [] = end_parts t
handed_all t (piece ∷ pieces) = handed t piece ++ handed_all (after t piece) pieces
