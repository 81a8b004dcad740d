-- Words of the code.
-- Assumes nothing.
use Rattle.std.specs.Prelude.{Bool, not, ◌&&◌, ℕ, eqb, ltb}
use Rattle.cell_log.specs.Answers.{Record}
use Rattle.receiver.specs.declared.Receiver.{Receiver}
use Rattle.hearing.specs.declared.judging.Judged.{Judged}
use Rattle.hearing.specs.Judging.{stop_of}

-- where a walk ends, by what was found there
abbrev pub ended_as : Receiver → ℕ → ℕ → Record → Judged
ended_as st next records found = record { refusal = 0; state = st; next = next; records = records; stop = stop_of found }

-- one of the refusals of a state, 1 to 4
abbrev pub is_of_state : ℕ → Bool
is_of_state refusal = not (eqb refusal 0) && ltb refusal 5
