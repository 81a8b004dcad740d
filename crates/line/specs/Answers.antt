-- What the sheet of request 3 and the answer of request 7 say of a log of the cells as they arrived.
-- Assumes nothing.
use Rattle.std.specs.Prelude.{not, ◌≡◌, ℕ, eqb}
use mathlib.Core.List.{List, flat_map}
use Rattle.sender.specs.declared.Sender.{Sender}
use Rattle.reading.specs.Reading.{reading_of}
use Rattle.reading.specs.Totals.{total_of, count_of, those}
use Rattle.figures.specs.declared.Counts.{Counts}
use Rattle.figures.specs.Figures.{counts_of}
use Rattle.presence.specs.Presence.{presence_of}
use Rattle.line.specs.Calls.{SendCall}
use Rattle.line.specs.Line.{is_lost, Trip, places_of, from_first, to_last}
use Rattle.line.specs.Tools.{is_unaltered, spoiled_times, copies, has_mark, not_zero, OfALog}

-- the line's own counts: "(8 and 9 apart in the sheet)", no other refusal, and "the sheet's marks are those of what demand 3 hands
-- out"
abbrev pub marked_in : ℕ → List Trip → ℕ
marked_in mark trips = count_of (has_mark mark) (flat_map places_of (to_last (from_first trips)))

abbrev pub counts_of_line : List Trip → Counts
counts_of_line trips =
    record {
      sound = count_of is_unaltered trips;
      missing = count_of (λ t. is_lost t.fate) (to_last (from_first trips));
      refused_8 = total_of (λ t. spoiled_times t.fate) trips;
      refused_9 = total_of (λ t. copies t.fate) trips;
      refused_15 = 0;
      refused_20 = 0;
      marked_0 = marked_in 0 trips;
      marked_1 = marked_in 1 trips;
      marked_2 = marked_in 2 trips;
    }

pub record Answers (st : Sender) (trips : List Trip) (log : List ℕ) : Type 0 where
  pub sheet : counts_of (reading_of log).heard ≡ counts_of_line trips
  -- "`anything` says yes exactly where one of the sent samples .., in an unaltered cell, isn't zero"
  pub anything : (presence_of log).found
      ≡ not (eqb (count_of not_zero (flat_map (λ t. t.sent.samples) (those is_unaltered trips))) 0)

unfoldable pub ToolsAnswer : ℕ → ℕ → ℕ → (SendCall → Type 0) → Type 0
ToolsAnswer most row cells SendBox = OfALog most row cells SendBox Answers
