-- Words that only the code of a sheet needs: counts that stop at the first number that is too many, and rows of such counts.
-- Assumes nothing.
use Rattle.std.specs.Prelude.{cond, List, [], ◌∷◌, ◌++◌, map, ◌≡◌, ℕ, ◌%◌, ◌≤◌, eqb, ltb}
use Rattle.runs.specs.Runs.{over}
use Rattle.reading.specs.Heard.{Heard, is_sound}
use Rattle.reading.specs.Totals.{count_of}
use Rattle.figures.specs.declared.Counts.{Counts}
use Rattle.figures.specs.Figures.{counts_of, row_of}
use Rattle.figures.specs.Sheets.{logs_of, heard_in, totals_of}

-- nothing counted
abbrev pub no_counts : Counts
no_counts =
    record {
      sound = 0;
      missing = 0;
      refused_8 = 0;
      refused_9 = 0;
      refused_15 = 0;
      refused_20 = 0;
      marked_0 = 0;
      marked_1 = 0;
      marked_2 = 0;
    }

-- what one record counts
abbrev pub one_of : Heard → Counts
one_of h =
    record {
      sound = cond (is_sound h) 1 0;
      missing = h.answer.missing;
      refused_8 = cond (eqb h.answer.refusal 8) 1 0;
      refused_9 = cond (eqb h.answer.refusal 9) 1 0;
      refused_15 = cond (eqb h.answer.refusal 15) 1 0;
      refused_20 = cond (eqb h.answer.refusal 20) 1 0;
      marked_0 = count_of (λ m. eqb m 0) h.marks;
      marked_1 = count_of (λ m. eqb m 1) h.marks;
      marked_2 = count_of (λ m. eqb m 2) h.marks;
    }

-- none of the nine is above a number
pub record Under (most : ℕ) (c : Counts) : Type 0 where
  pub sound : c.sound ≤ most
  pub missing : c.missing ≤ most
  pub refused8 : c.refused_8 ≤ most
  pub refused9 : c.refused_9 ≤ most
  pub refused15 : c.refused_15 ≤ most
  pub refused20 : c.refused_20 ≤ most
  pub marked0 : c.marked_0 ≤ most
  pub marked1 : c.marked_1 ≤ most
  pub marked2 : c.marked_2 ≤ most

-- none of them is too many
abbrev pub Small : Counts → Type 0
Small c = Under 4294967295 c

-- a number counted no further than 4,294,967,296, the first that is too many
unfoldable pub cap_of : ℕ → ℕ
cap_of n = cond (ltb 4294967296 n) 4294967296 n

unfoldable pub capped : Counts → Counts
capped c =
    record {
      sound = cap_of c.sound;
      missing = cap_of c.missing;
      refused_8 = cap_of c.refused_8;
      refused_9 = cap_of c.refused_9;
      refused_15 = cap_of c.refused_15;
      refused_20 = cap_of c.refused_20;
      marked_0 = cap_of c.marked_0;
      marked_1 = cap_of c.marked_1;
      marked_2 = cap_of c.marked_2;
    }

-- how many of a run are marked so
abbrev pub marked : ℕ → List ℕ → ℕ
marked mark marks = count_of (λ m. eqb m mark) marks

-- the ten numbers of a row in 32 bits each; they are those of `row_of` where none of the nine is too many
unfoldable pub held_row : Counts → List ℕ
held_row c = map (λ n. n % 4294967296) (row_of c)

unfoldable pub held_rows : List (List ℕ) → List ℕ
held_rows [] = []
held_rows (log ∷ logs) = held_row (capped (counts_of (heard_in log))) ++ held_rows logs

-- the rows of all logs written from the start, and the totals
pub record Fills (octets lengths rows : List ℕ) (totals : Counts) (rows₁ : List ℕ) : Type 0 where
  pub totals_are : totals ≡ capped (totals_of (logs_of octets lengths))
  pub rows_after : rows₁ ≡ over (held_rows (logs_of octets lengths)) rows
