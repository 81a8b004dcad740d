-- A log's records judged in a row: the answers of `heard_from`, as many as there is room for.
-- Assumes nothing.
use Rattle.std.specs.Prelude.{Bool, cond, ◌≡◌, ℕ, ◌+◌, ◌*◌, ◌/◌, eqb, length, take, drop}
use mathlib.Core.List.{List, [], ◌∷◌, flat_map}
use Rattle.runs.specs.Runs.{over}
use Rattle.cell_log.specs.Answers.{Record}
use Rattle.cell_log.specs.Records.{record_at}
use Rattle.receiver.specs.declared.Receiver.{Receiver}
use Rattle.receiver.specs.declared.Received.{Received}
use Rattle.receiver.specs.Receiver.{state_refusal}
use Rattle.reading.specs.Heard.{Heard, heard_from, end_of}
use Rattle.reading.specs.Records.{records_in}
use Rattle.hearing.specs.declared.judging.Judged.{Judged}

-- a yes or no as an octet
abbrev pub yes_no : Bool → ℕ
yes_no said = cond said 1 0

-- "Five octets a record: its refusal (0, 8, 15, 9, 20), then the four of `rime_receive`'s report (zeros where it is refused)"
unfoldable pub report_of : Received → List ℕ
report_of r = r.refusal ∷ r.missing ∷ r.number ∷ r.second ∷ yes_no r.indication ∷ []

abbrev pub reports_of : List Heard → List ℕ
reports_of heard = flat_map (λ h. report_of h.answer) heard

-- what the receiver makes of all records from a place on
abbrev pub all_from : Receiver → List ℕ → ℕ → List Heard
all_from st log place = heard_from st (records_in (drop place log))

-- the longest prefix of them that has five octets of room each
abbrev pub judged_in : Receiver → List ℕ → ℕ → ℕ → List Heard
judged_in st log place room = take (room / 5) (all_from st log place)

-- "Why it stopped is the number that the next single call would answer: 0 the log's end, 11 a first octet above 1, 12 a record that
-- is cut, 10 no room"
abbrev pub stop_of : Record → ℕ
stop_of found = cond (eqb found.what 1) 10 found.refusal

-- past these records
abbrev pub judged_to : Receiver → List ℕ → ℕ → List Heard → Judged
judged_to st log place heard =
    record {
      refusal = 0;
      state = end_of st heard;
      next = place + 49 * length heard;
      records = length heard;
      stop = stop_of (record_at log (place + 49 * length heard));
    }

abbrev pub judged_not : ℕ → Receiver → Judged
judged_not refusal st = record { refusal = refusal; state = st; next = 0; records = 0; stop = 0 }

-- the walk, of a state that nothing is wrong with
pub record JudgesOn (st : Receiver) (log : List ℕ) (place : ℕ) (reports : List ℕ) (answer : Judged) (reports₁ : List ℕ) : Type 0 where
  pub answered : answer ≡ judged_to st log place (judged_in st log place (length reports))
  pub reports_after : reports₁ ≡ over (reports_of (judged_in st log place (length reports))) reports

-- the whole promise: "Returns 0, or 1 to 4"; "what stands in `reports` past the last one stays"
abbrev pub judged_over : Receiver → List ℕ → ℕ → ℕ → Judged
judged_over st log place room =
    cond (eqb (state_refusal st) 0) (judged_to st log place (judged_in st log place room)) (judged_not (state_refusal st) st)

abbrev pub reports_given : Receiver → List ℕ → ℕ → ℕ → List ℕ
reports_given st log place room = cond (eqb (state_refusal st) 0) (reports_of (judged_in st log place room)) []

pub record Judges (st : Receiver) (log : List ℕ) (place : ℕ) (reports : List ℕ) (answer : Judged) (reports₁ : List ℕ) : Type 0 where
  pub answered : answer ≡ judged_over st log place (length reports)
  pub reports_after : reports₁ ≡ over (reports_given st log place (length reports)) reports
