-- The figures of records, request 3: each is a count over the records and what the receiver handed out for them.
-- Assumes nothing.
use Rattle.std.specs.Prelude.{Bool, cond, ◌||◌, List, [], ◌∷◌, ℕ, ◌+◌, ◌*◌, ◌/◌, eqb, ltb}
use Rattle.reading.specs.Heard.{Heard, sound_in, missing_in, refused_with, marked_with}
use Rattle.figures.specs.declared.Counts.{Counts}

-- "the cells sound, missing and refused (by number), and samples marked 0, 1 and 2"; 8, 9, 15 and 20 are all that a fresh receiver
-- with room can say to a record
unfoldable pub counts_of : List Heard → Counts
counts_of heard =
    record {
      sound = sound_in heard;
      missing = missing_in heard;
      refused_8 = refused_with 8 heard;
      refused_9 = refused_with 9 heard;
      refused_15 = refused_with 15 heard;
      refused_20 = refused_with 20 heard;
      marked_0 = marked_with 0 heard;
      marked_1 = marked_with 1 heard;
      marked_2 = marked_with 2 heard;
    }

-- "missing per million of sound plus missing, rounded down, and 0 where that sum is 0"
unfoldable pub per_million : ℕ → ℕ → ℕ
per_million sound missing = cond (eqb (sound + missing) 0) 0 (missing * 1000000 / (sound + missing))

-- the ten numbers of a row, as a lent run takes them
unfoldable pub row_of : Counts → List ℕ
row_of c =
    c.sound ∷ c.missing ∷ c.refused_8 ∷ c.refused_9 ∷ c.refused_15 ∷ c.refused_20 ∷ c.marked_0 ∷ c.marked_1
    ∷ c.marked_2 ∷ per_million c.sound c.missing ∷ []

-- a number that is above 4,294,967,295
abbrev pub above : ℕ → Bool
above n = ltb 4294967295 n

-- 19: one of the nine is
unfoldable pub too_many_of : Counts → Bool
too_many_of c =
    above c.sound || (above c.missing || (above c.refused_8 || (above c.refused_9 || (above c.refused_15
    || (above c.refused_20 || (above c.marked_0 || (above c.marked_1 || above c.marked_2)))))))

-- the sums of two
abbrev pub plus_of : Counts → Counts → Counts
plus_of a b =
    record {
      sound = a.sound + b.sound;
      missing = a.missing + b.missing;
      refused_8 = a.refused_8 + b.refused_8;
      refused_9 = a.refused_9 + b.refused_9;
      refused_15 = a.refused_15 + b.refused_15;
      refused_20 = a.refused_20 + b.refused_20;
      marked_0 = a.marked_0 + b.marked_0;
      marked_1 = a.marked_1 + b.marked_1;
      marked_2 = a.marked_2 + b.marked_2;
    }
