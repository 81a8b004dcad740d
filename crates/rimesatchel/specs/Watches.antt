-- A watch over second numbers as seven octets, and what a step on them leaves, as include/rimesatchel.h has it.
-- Assumes nothing.
use Rattle.std.specs.Prelude.{List, [], ◌∷◌, ◌≡◌, ℕ, Result, Ok, Err, get_or}
use Rattle.refusals.specs.declared.Refusal.{Refusal}
use Rattle.slips.specs.declared.Slip.{Slip}
use Rattle.slips.specs.Known.{what_of, cells_of}
use Rattle.slips.specs.Watch.{Watch, Stepped, step_of}
use Rattle.rimesatchel.specs.Boxes.{state_after}

-- "started, number, sure, second, may, waits, other"
unfoldable pub watch_of : List ℕ → Watch
watch_of o =
    record {
      started = get_or o 0 0;
      number = get_or o 1 0;
      sure = get_or o 2 0;
      second = get_or o 3 0;
      may = get_or o 4 0;
      waits = get_or o 5 0;
      other = get_or o 6 0;
    }

unfoldable pub watch_octets : Watch → List ℕ
watch_octets w = w.started ∷ w.number ∷ w.sure ∷ w.second ∷ w.may ∷ w.waits ∷ w.other ∷ []

-- the step by a report as `rime_receive` left it: "missing count, number, second number, indication"; "The indication isn't looked at"
abbrev pub slipped_of : List ℕ → List ℕ → Stepped
slipped_of watch report = step_of (watch_of watch) (get_or report 0 0) (get_or report 1 0) (get_or report 2 0)

-- the refusal, the watch as it is left, and `slip`: "what, cells"
pub record SlippedOctets (watch report : List ℕ) (refusal : ℕ) (left slip : List ℕ) : Type 0 where
  pub refused : refusal ≡ (slipped_of watch report).refusal
  pub leaves : left ≡ state_after (slipped_of watch report).refusal (watch_octets (slipped_of watch report).watch) watch
  pub tells : slip ≡ (slipped_of watch report).what ∷ (slipped_of watch report).cells ∷ []

-- `slip` by the answer: zeros on a refusal
abbrev pub told_by : Result Slip Refusal → List ℕ
told_by (Ok slip) = what_of slip ∷ cells_of slip ∷ []
told_by (Err refusal) = 0 ∷ 0 ∷ []
