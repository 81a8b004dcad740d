-- A reader at a place of a log: at its end, and at a whole record.
-- Assumes nothing.
use mathlib.Core.Bool.{false, cond}
use mathlib.Core.List.{List, []}
use mathlib.Core.Path.{◌≡◌, ◌∙◌, ap}
use Prim.Native.Nat.{ℕ, ◌+◌, ◌≤◌, ◌<◌}
use borrow.Author.Tests.{le-leb, lt-leb}
use lib.Dec.{leb, ltb}
use lib.ListN.{length, get_or, take, drop}
use Rattle.runs.specs.Runs.{over}
use Rattle.runs.proofs.Laws.{past}
use Rattle.cell_log.specs.Records.{header_of, record_at, cell_at, place_after}
use Rattle.listing.specs.Lines.{log_refused_line}
use Rattle.listing.proofs.Refused.{refused_list}
use Rattle.rimesatchel.specs.Kept.{ListedOctets}
use Rattle.line.specs.Calls.{MeetsReadCell, MeetsNextPlace}
use Rattle.line.specs.Demands.{record_table}

pub end_cell : (log : List ℕ) (place : ℕ) (part : List ℕ) → MeetsReadCell log place part → length log ≤ place → part ≡ []
unfolding cell_at record_at
end_cell log place part meets past_end = meets ∙ rw (le-leb (length log) place past_end)

pub end_place : (log : List ℕ) (place next : ℕ) → MeetsNextPlace log place next → length log ≤ place → next ≡ place
unfolding place_after record_at
end_place log place next meets past_end = meets ∙ rw (le-leb (length log) place past_end)

module _ (log : List ℕ) (place : ℕ) (inside : place < length log) (none : record_table log place ≡ 0) where
  first : leb (length log) place ≡ false
  first = lt-leb (length log) place inside

  later : ◌≡◌ {A = ℕ} (cond (ltb 1 (get_or log place 0)) 11 (cond (ltb (length log) (place + 49)) 12 0)) 0
  later = rw first at none

  indication_none : ltb 1 (get_or log place 0) ≡ false
  indication_none = (past (ltb 1 (get_or log place 0)) 10 _ later).0

  cut_none : ltb (length log) (place + 49) ≡ false
  cut_none = (past (ltb (length log) (place + 49)) 11 0 (past (ltb 1 (get_or log place 0)) 10 _ later).1).0

  pub whole_cell : (part : List ℕ) → MeetsReadCell log place part → part ≡ take 48 (drop (place + 1) log)
  unfolding cell_at record_at
  whole_cell part meets = meets ∙ rw (first, indication_none, cut_none)

  pub whole_place : (next : ℕ) → MeetsNextPlace log place next → next ≡ place + 49
  unfolding place_after record_at
  whole_place next meets = meets ∙ rw (first, indication_none, cut_none)

pub refused_listed : (log run : List ℕ) (refusal : ℕ) (after numbers : List ℕ) → ListedOctets log run refusal after numbers
    → ((header_of log).refusal ≡ 0 → ⊥) → after ≡ over (take (length run) (log_refused_line (header_of log).refusal)) run
refused_listed log run refusal after numbers p some =
    p.left ∙ ap (λ (text : List ℕ). over (take (length run) text) run) (refused_list 4294967295 log some)
