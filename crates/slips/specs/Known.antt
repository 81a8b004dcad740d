-- The watch and the slip as the code holds them, and the numbers that the request has for them.
-- Assumes nothing.
use Rattle.std.specs.Prelude.{false, true, List, [], ◌∷◌, ◌≡◌, ℕ, Result, Ok, Err, get_or}
use Rattle.refusals.specs.declared.Refusal.{Refusal}
use Rattle.refusals.specs.declared.Refusal.TheVariants.{State}
use Rattle.refusals.specs.Refusals.{number_of}
use Rattle.slips.specs.declared.Watch as Code
use Rattle.slips.specs.declared.Watch.TheVariants as V
use Rattle.slips.specs.declared.Slip.{Slip}
use Rattle.slips.specs.declared.Slip.TheVariants.{Nothing, Missing, Alone, Undecided}
use Rattle.slips.specs.Watch.{Watch, Stepped, watch_refused, begun, in_step_of, out_of_step, told, refused}

-- "all zeros at first"
abbrev pub known_of : Code.Watch → Watch
known_of V.New = record { started = 0; number = 0; sure = 0; second = 0; may = 0; waits = 0; other = 0 }
known_of (V.Begun number second) = begun number second
known_of (V.InStep number second) = in_step_of number second
known_of (V.OutOfStep number second may other) = out_of_step number second may other

-- "0 nothing; 1 at least `cells` cells more are missing before the cell taken before this one; 2 that cell was out of step alone; 3 this
-- cell is out of step"
abbrev pub what_of : Slip → ℕ
what_of Nothing = 0
what_of (Missing n) = 1
what_of Alone = 2
what_of (Undecided n) = 3

abbrev pub cells_of : Slip → ℕ
cells_of Nothing = 0
cells_of (Missing n) = n
cells_of Alone = 0
cells_of (Undecided n) = n

-- what a step that isn't refused leaves and tells, as the request has it
abbrev pub leaves_and_tells : Code.Watch → Slip → Stepped
leaves_and_tells after slip = told (known_of after) (what_of slip) (cells_of slip)

-- and any step
abbrev pub stepped_of : Result Slip Refusal → Code.Watch → Stepped
stepped_of (Ok slip) after = leaves_and_tells after slip
stepped_of (Err refusal) after = refused (number_of refusal) (known_of after)

-- "started, number, sure, second, may, waits, other"
abbrev pub watch_in : List ℕ → Watch
watch_in o =
    record {
      started = get_or o 0 0;
      number = get_or o 1 0;
      sure = get_or o 2 0;
      second = get_or o 3 0;
      may = get_or o 4 0;
      waits = get_or o 5 0;
      other = get_or o 6 0;
    }

abbrev pub octets_in : Watch → List ℕ
octets_in w = w.started ∷ w.number ∷ w.sure ∷ w.second ∷ w.may ∷ w.waits ∷ w.other ∷ []

-- what octets are read as: 4 for "a watch that can't be", and for nothing else
abbrev pub Reads : List ℕ → Result Code.Watch Refusal → Type 0
Reads octets (Ok watch) = (known_of watch ≡ watch_in octets) × (watch_refused (watch_in octets) ≡ false)
Reads octets (Err refusal) = (refusal ≡ State) × (watch_refused (watch_in octets) ≡ true)

-- a step of a watch that is seven octets, as the request has it: "the watch" goes on, or stays as it was
abbrev pub stepped_from : List ℕ → Result (List ℕ × Slip) Refusal → Stepped
stepped_from before (Ok r) = told (watch_in r.0) (what_of r.1) (cells_of r.1)
stepped_from before (Err refusal) = refused (number_of refusal) (watch_in before)
