-- Where a log stopped, and the line that says it.
-- Assumes nothing.
use Rattle.std.specs.Prelude.{cond, List, [], ◌++◌, ◌≡◌, ℕ, eqb, length, take}
use Rattle.runs.specs.Runs.{over}
use Rattle.text.specs.declared.Put.{Put}
use Rattle.text.specs.Put.{listed}
use Rattle.text.specs.Text.{item}
use Rattle.text.specs.Words.{words}
use Rattle.pieces.specs.declared.Standing.{Standing}
use Rattle.pieces.specs.Steps.{taking_of}
use Rattle.pieces.specs.Taken.{end_fault}
use Rattle.stops.specs.declared.Stop.{Stop}

abbrev pub stop_by : ℕ → ℕ → ℕ → Stop
stop_by what refusal number = record { what = what; refusal = refusal; number = number }

-- a log that goes up to its end without a fault: the end may have one
unfoldable pub end_stop : ℕ → ℕ → ℕ → Stop
end_stop stage refusal number =
    cond (eqb refusal 0) (stop_by 0 0 number) (cond (eqb stage 0) (stop_by 1 refusal number) (stop_by 2 refusal number))

-- stage 2: the header is refused; stage 3: a record is broken
unfoldable pub stop_of : Standing → List ℕ → Stop
stop_of s held =
    cond (eqb s.stage 2) (stop_by 1 s.fault s.records)
    (cond (eqb s.stage 3) (stop_by 2 s.fault s.records)
    (end_stop s.stage (end_fault (taking_of s held)) s.records))

-- "`record 0 broken 11`"; and of a header, as the desk tool says it
unfoldable pub begin_of : Stop → List ℕ
begin_of s =
    cond (eqb s.what 1) (item (words "the log is refused ") s.refusal)
    (item (words "record ") s.number ++ item (words " broken ") s.refusal)

-- "in words too": those that the header file has for the refusals of a log
unfoldable pub reason_of : ℕ → List ℕ
reason_of refusal =
    cond (eqb refusal 1) (words ": there is no such format")
    (cond (eqb refusal 2) (words ": there are no channels, or more than slots")
    (cond (eqb refusal 3) (words ": the order is above 1")
    (cond (eqb refusal 11) (words ": a number or an indication in the log is wrong")
    (cond (eqb refusal 12) (words ": a record of the log is cut")
    (cond (eqb refusal 13) (words ": the log is too long") [])))))

unfoldable pub line_of : Stop → List ℕ
line_of s = cond (eqb s.what 0) [] (begin_of s ++ reason_of s.refusal ++ words "\n")

-- the whole promise of writing it into a lent run: how many octets of it stand there, and whether they are all
pub record Writes (s : Stop) (run : List ℕ) (answer : Put) (run-after : List ℕ) : Type 0 where
  pub printed : answer ≡ listed (length run) (line_of s)
  pub wrote : run-after ≡ over (take (length run) (line_of s)) run
