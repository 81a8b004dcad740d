-- A log with a limit on its octets, request 14: its parts in their order, which are the header, the whole records and the fault.
-- Assumes nothing.
use Rattle.std.specs.Prelude.{ℕ, ◌-◌, cond, List, [], ◌∷◌, ◌++◌, map, length, take, ◌==◌, nat_le}
use Rattle.cell_log.specs.Answers.{Header}
use Rattle.cell_log.specs.Records.{header_of}
use Rattle.reading.specs.Reading.{behind_header}
use Rattle.reading.specs.Records.{Whole, records_in, fault_in}

-- what a log hands out: its header, where that is taken; a whole record; and last the refusal of the header, or that of the record
-- that is broken, or that the log ends without a fault
pub data Part : Type 0 where
  head : Header → Part
  whole : Whole → Part
  refused : ℕ → Part
  broken : ℕ → Part
  done : Part

-- the whole records of octets of which so many are within the limit
unfoldable pub records_to : ℕ → List ℕ → List Whole
records_to limit octets = records_in (take limit octets)

-- 13, "when an octet past it is met in record k": an octet is past the limit, and no record within it is broken by 11. A record
-- that the limit cuts isn't broken by 12.
unfoldable pub fault_to : ℕ → List ℕ → ℕ
fault_to limit octets =
    cond (nat_le (length octets) limit)
    (fault_in octets)
    (cond (fault_in (take limit octets) == 11) 11 13)

-- what stops the records of a log: a fault (0: none), or the end
unfoldable pub end_part : ℕ → List Part
end_part refusal = cond (refusal == 0) (done ∷ []) (broken refusal ∷ [])

-- the records of octets, and what stops them
abbrev pub record_parts : ℕ → List ℕ → List Part
record_parts limit octets = map whole (records_to limit octets) ++ end_part (fault_to limit octets)

-- the parts of a log: an accepted header has three octets, which the limit counts too
unfoldable pub parts_of : ℕ → List ℕ → List Part
parts_of limit log =
    cond ((header_of log).refusal == 0)
    (head (header_of log) ∷ record_parts (limit - 3) (behind_header log))
    (refused (header_of log).refusal ∷ [])
