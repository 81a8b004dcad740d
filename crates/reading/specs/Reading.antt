-- The reading of a log: "read up to its first framing fault" or its end by a fresh receiver with room.
-- Assumes nothing.
use Rattle.std.specs.Prelude.{cond, List, [], ℕ, eqb, drop}
use Rattle.cell_log.specs.Answers.{Header}
use Rattle.cell_log.specs.Records.{header_of}
use Rattle.receiver.specs.declared.Receiver.{Receiver}
use Rattle.receiver.specs.Receiver.{opened_of}
use Rattle.reading.specs.Heard.{Heard, heard_from}
use Rattle.reading.specs.Records.{records_in, rest_in, fault_in}

-- the header, with its refusal; what is made of each whole record; the framing fault (0: none) and the octets from there on
pub record Reading : Type 0 where
  pub header : Header
  pub heard : List Heard
  pub fault : ℕ
  pub rest : List ℕ

-- a receiver opened as a header says
abbrev pub fresh_of : Header → Receiver
fresh_of header = (opened_of header.format header.channels header.order).state

-- the octets behind a log's header
abbrev pub behind_header : List ℕ → List ℕ
behind_header log = drop (header_of log).place log

-- a log whose header is refused has no records
unfoldable pub reading_of : List ℕ → Reading
reading_of log =
    cond (eqb (header_of log).refusal 0)
    (record {
      header = header_of log;
      heard = heard_from (fresh_of (header_of log)) (records_in (behind_header log));
      fault = fault_in (behind_header log);
      rest = rest_in (behind_header log);
    })
    (record { header = header_of log; heard = []; fault = 0; rest = [] })
