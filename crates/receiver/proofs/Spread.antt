-- Laws of cells unpacked one behind the other: what the loop keeps of the three runs, and what they are at its end.
-- Assumes nothing.
use mathlib.Core.List.{List, ◌++◌, append_assoc, append-nil}
use mathlib.Core.Logic.{◌⊎◌, ⊎_elim}
use mathlib.Core.Path.{◌≡◌, refl, sym, ◌∙◌, ap}
use Prim.Native.Nat.{ℕ, suc, ◌+◌, ◌*◌, ◌-◌, ◌≤◌, ◌<◌}
use native.Mathlib.Nat.{suc-mul, mul-le-mul_right}
use native.Mathlib.Numerals.{add-one}
use native.Mathlib.Omega.{arith}
use lib.ListN.{length, get_or, take, drop, replicate, length-append, length-drop, length-replicate, replicate-append-replicate}
use lib.Seq.{drop_at, drop-append-add, drop-drop, length-take-le, get_or-drop, get_or-append-add}
use Rattle.runs.specs.Runs.{joined, over, written}
use Rattle.runs.proofs.Laws.{length_joined}
use Rattle.formats.specs.Settled.{Settled}
use Rattle.cells.specs.Cells.{sample_in, ancillary_in, mark_in}
use Rattle.receiver.specs.Unpacking.{used_in, own_entries, Unpacks, Room, Misses, Blank}
use Rattle.receiver.specs.Many.{cell_from, many_own, FillsMany}
use Rattle.receiver.proofs.Unpacking.{own_length, over_then, from_front}

-- entries over longer ones that were there before
over_hides : (new old run : List ℕ) → length old ≤ length new → over new (over old run) ≡ over new run
unfolding over
over_hides new old run less =
    let far : length old + (length new - length old) ≡ length new = omega arith in
    ap (λ (l : List ℕ). new ++ l)
    (ap (λ (n : ℕ). drop n (old ++ drop (length old) run)) (sym far)
    ∙ drop-append-add old (drop (length old) run) (length new - length old)
    ∙ drop-drop (length new - length old) (length old) run
    ∙ ap (λ (n : ℕ). drop n run) far)

-- a run of one value over a longer one of the same
over_same : (few more v : ℕ) (run : List ℕ) → over (replicate few v) (over (replicate (few + more) v) run) ≡ over (replicate (few + more) v) run
unfolding over
over_same few more v run =
    let short : List ℕ = replicate few v in
    let long : List ℕ = replicate (few + more) v in
    let rest : List ℕ = drop (length long) run in
    let both : long ≡ short ++ replicate more v = sym (replicate-append-replicate few more v) in
    ap (λ (l : List ℕ). short ++ drop (length short) (l ++ rest)) both
    ∙ ap (λ (l : List ℕ). short ++ drop (length short) l) (append_assoc short (replicate more v) rest)
    ∙ ap (λ (l : List ℕ). short ++ l) (drop_at short (replicate more v ++ rest) (length short) refl)
    ∙ sym (append_assoc short (replicate more v) rest)
    ∙ ap (λ (l : List ℕ). l ++ rest) (sym both)

-- the octets of a record behind its first
pub cell_part : (octets : List ℕ) (place k : ℕ)
    → take (place + 49 * k + 1 + 48 - (place + 49 * k + 1)) (drop (place + 49 * k + 1) octets) ≡ cell_from octets place k
cell_part octets place k =
    let long : place + 49 * k + 1 + 48 - (place + 49 * k + 1) ≡ 48 = omega arith in ap (λ (n : ℕ). take n (drop (place + 49 * k + 1) octets)) long

pub cell_long : (octets : List ℕ) (place records : ℕ) {k : ℕ} → place + 49 * records ≤ length octets → k < records
    → length (take (place + 49 * k + 1 + 48 - (place + 49 * k + 1)) (drop (place + 49 * k + 1) octets)) ≡ 48
cell_long octets place records {k} there less =
    ap length (cell_part octets place k)
    ∙ length-take-le 48 (drop (place + 49 * k + 1) octets) (omega (arith, length-drop (place + 49 * k + 1) octets))

module _ (set : Settled) (octets : List ℕ) (place records missing : ℕ) where
  abbrev own : (ℕ → ℕ) → ℕ → List ℕ
  own read k = own_entries read set (cell_from octets place k)

  abbrev so_many : ℕ → (ℕ → ℕ) → ℕ → List ℕ
  so_many v read k = replicate missing v ++ many_own read set octets place k

  pub many_length : (v : ℕ) (read : ℕ → ℕ) (k : ℕ) → length (so_many v read k) ≡ missing + k * used_in set
  many_length v read k =
      length-append (replicate missing v) (many_own read set octets place k)
      ∙ omega (arith, length-replicate missing v, length_joined (own read) (used_in set) k (λ j. own_length set (cell_from octets place j) read))

  pub next_within : {k : ℕ} → k < records → k * used_in set + used_in set ≤ records * used_in set
  next_within {k} less = omega (arith, suc-mul k (used_in set), mul-le-mul_right {m = suc k} {n = records} (used_in set) less)

  many_more : (v : ℕ) (read : ℕ → ℕ) (k : ℕ) → so_many v read k ++ own read k ≡ so_many v read (k + 1)
  unfolding joined
  many_more v read k =
      append_assoc (replicate missing v) (many_own read set octets place k) (own read k)
      ∙ ap (λ (n : ℕ). so_many v read n) (sym (add-one k))

  -- a run with the cells so far, and one more
  more : (v : ℕ) (read : ℕ → ℕ) (run₀ : List ℕ) {run run₁ : List ℕ} {k : ℕ} → missing + records * used_in set ≤ length run₀ → k < records
      → run ≡ over (so_many v read k) run₀ → run₁ ≡ written run (missing + k * used_in set) (own read k)
      → run₁ ≡ over (so_many v read (k + 1)) run₀
  more v read run₀ {k = k} room less so_far w =
      over_then (so_many v read k) (own read k) run₀ (many_length v read k) (omega (arith, next_within less)) so_far w
      ∙ ap (λ (l : List ℕ). over l run₀) (many_more v read k)

  none_yet : (v : ℕ) (read : ℕ → ℕ) → so_many v read 0 ≡ replicate missing v
  unfolding joined
  none_yet v read = append-nil (replicate missing v)

  -- the three runs at the loop's start
  module _ (samples₀ ancillary₀ marks₀ : List ℕ) where
    -- so many cells are unpacked
    pub record Spread (k : ℕ) (samples ancillary marks : List ℕ) : Type 0 where
      pub few : k ≤ records
      pub samples_so_far : samples ≡ over (so_many 0 (sample_in set.format) k) samples₀
      pub ancillary_so_far : ancillary ≡ over (so_many 0 (ancillary_in set.format) k) ancillary₀
      pub marks_so_far : marks ≡ over (so_many 2 (mark_in set.format) k) marks₀
      pub samples_same : length samples ≡ length samples₀
      pub ancillary_same : length ancillary ≡ length ancillary₀
      pub marks_same : length marks ≡ length marks₀

    module _ (room : Room missing (records * used_in set) samples₀ ancillary₀ marks₀) {k : ℕ} {samples ancillary marks : List ℕ}
        (s : Spread k samples ancillary marks)
      where
        pub spread_room : k < records → Room (missing + k * used_in set) (used_in set) samples ancillary marks
        spread_room less =
            record {
              samples_room = omega (arith, room.samples_room, s.samples_same, next_within less);
              ancillary_room = omega (arith, room.ancillary_room, s.ancillary_same, next_within less);
              marks_room = omega (arith, room.marks_room, s.marks_same, next_within less);
            }

        -- what the ancillary run holds ahead of the loop
        ahead : (i : ℕ) → get_or ancillary (missing + k * used_in set + i) 0 ≡ get_or ancillary₀ (missing + (k * used_in set + i)) 0
        unfolding over
        ahead i =
            let front : List ℕ = so_many 0 (ancillary_in set.format) k in
            let long : length front ≡ missing + k * used_in set = many_length 0 (ancillary_in set.format) k in
            let far : length front + i ≡ missing + (k * used_in set + i) = omega (arith, long) in
            ap (λ (l : List ℕ). get_or l (missing + k * used_in set + i) 0) s.ancillary_so_far
            ∙ ap (λ (n : ℕ). get_or (front ++ drop (length front) ancillary₀) (n + i) 0) (sym long)
            ∙ get_or-append-add front (drop (length front) ancillary₀) i 0
            ∙ get_or-drop (length front) ancillary₀ i 0
            ∙ ap (λ (n : ℕ). get_or ancillary₀ n 0) far

        pub spread_blank : k < records → Blank set.format missing (records * used_in set) ancillary₀
            → Blank set.format (missing + k * used_in set) (used_in set) ancillary
        spread_blank less blank bare i small = ahead i ∙ blank bare (k * used_in set + i) (omega (arith, next_within less))

        pub spread_on : k < records → {cell samples₁ ancillary₁ marks₁ : List ℕ} → cell ≡ cell_from octets place k
            → Unpacks set cell (missing + k * used_in set) samples ancillary marks samples₁ ancillary₁ marks₁
            → length samples₁ ≡ length samples → length ancillary₁ ≡ length ancillary → length marks₁ ≡ length marks
            → Spread (k + 1) samples₁ ancillary₁ marks₁
        spread_on less is u ls la lm =
            let put : (read : ℕ → ℕ) → own_entries read set _ ≡ own read k = λ read. ap (own_entries read set) is in
            record {
              few = omega arith;
              samples_so_far =
                  more 0 (sample_in set.format) samples₀ room.samples_room less s.samples_so_far
                  (u.samples_are ∙ ap (written samples (missing + k * used_in set)) (put (sample_in set.format)));
              ancillary_so_far =
                  more 0 (ancillary_in set.format) ancillary₀ room.ancillary_room less s.ancillary_so_far
                  (u.ancillary_is ∙ ap (written ancillary (missing + k * used_in set)) (put (ancillary_in set.format)));
              marks_so_far =
                  more 2 (mark_in set.format) marks₀ room.marks_room less s.marks_so_far
                  (u.marks_are ∙ ap (written marks (missing + k * used_in set)) (put (mark_in set.format)));
              samples_same = ls ∙ s.samples_same;
              ancillary_same = la ∙ s.ancillary_same;
              marks_same = lm ∙ s.marks_same;
            }

  -- the three runs before, of which the loop found those with the entries of missing cells
  module _ {blank : ℕ} {samples ancillary marks samples₀ ancillary₀ marks₀ : List ℕ}
      (which : (blank ≡ missing) ⊎ (blank ≡ missing + records * used_in set))
      (lost : Misses missing blank samples ancillary marks samples₀ ancillary₀ marks₀)
    where
      again : (v : ℕ) (run : List ℕ) → over (replicate missing v) (over (replicate missing v) run) ≡ over (replicate missing v) run
      again v run = over_hides (replicate missing v) (replicate missing v) run (omega arith)

      blank_is : ancillary₀ ≡ over (replicate blank 0) ancillary
      blank_is = lost.ancillary_is ∙ from_front ancillary (replicate blank 0)

      marked_is : marks₀ ≡ over (replicate missing 2) marks
      marked_is = lost.marks_are ∙ from_front marks (replicate missing 2)

      zeros_first : over (replicate missing 0) ancillary₀ ≡ ancillary₀
      zeros_first =
          ⊎_elim
          (λ e.
          let is : ancillary₀ ≡ over (replicate missing 0) ancillary = blank_is ∙ ap (λ (n : ℕ). over (replicate n 0) ancillary) e in
          ap (over (replicate missing 0)) is ∙ again 0 ancillary ∙ sym is)
          (λ e.
          let is : ancillary₀ ≡ over (replicate (missing + records * used_in set) 0) ancillary =
          blank_is ∙ ap (λ (n : ℕ). over (replicate n 0) ancillary) e in
          ap (over (replicate missing 0)) is ∙ over_same missing (records * used_in set) 0 ancillary ∙ sym is)
          which

      pub spread_begun : Spread samples₀ ancillary₀ marks₀ 0 samples₀ ancillary₀ marks₀
      spread_begun =
          record {
            few = omega arith;
            samples_so_far =
                lost.samples_are
                ∙ sym (again 0 samples)
                ∙ ap (over (replicate missing 0)) (sym lost.samples_are)
                ∙ ap (λ (l : List ℕ). over l samples₀) (sym (none_yet 0 (sample_in set.format)));
            ancillary_so_far = sym zeros_first ∙ ap (λ (l : List ℕ). over l ancillary₀) (sym (none_yet 0 (ancillary_in set.format)));
            marks_so_far =
                marked_is
                ∙ sym (again 2 marks)
                ∙ ap (over (replicate missing 2)) (sym marked_is)
                ∙ ap (λ (l : List ℕ). over l marks₀) (sym (none_yet 2 (mark_in set.format)));
            samples_same = refl;
            ancillary_same = refl;
            marks_same = refl;
          }

      blank_to : blank ≤ missing + records * used_in set
      blank_to = ⊎_elim (λ e. omega (arith, e)) (λ e. omega (arith, e)) which

      -- what the loop's runs are at its end
      hidden : (v few : ℕ) (read : ℕ → ℕ) (run : List ℕ) {run₀ : List ℕ} → few ≤ missing + records * used_in set → run₀ ≡ over (replicate few v) run
          → over (so_many v read records) run₀ ≡ over (so_many v read records) run
      hidden v few read run less is =
          ap (over (so_many v read records)) is
          ∙ over_hides (so_many v read records) (replicate few v) run (omega (arith, length-replicate {A = ℕ} few v, many_length v read records, less))

      pub spread_done : {k : ℕ} {samples₁ ancillary₁ marks₁ : List ℕ} → Spread samples₀ ancillary₀ marks₀ k samples₁ ancillary₁ marks₁ → records ≤ k
          → FillsMany set octets place records missing samples ancillary marks samples₁ ancillary₁ marks₁
      spread_done {k} s all =
          let whole : k ≡ records = omega (arith, s.few) in
          record {
            samples_are =
                s.samples_so_far
                ∙ ap (λ (n : ℕ). over (so_many 0 (sample_in set.format) n) samples₀) whole
                ∙ hidden 0 missing (sample_in set.format) samples (omega arith) lost.samples_are;
            ancillary_is =
                s.ancillary_so_far
                ∙ ap (λ (n : ℕ). over (so_many 0 (ancillary_in set.format) n) ancillary₀) whole
                ∙ hidden 0 blank (ancillary_in set.format) ancillary blank_to blank_is;
            marks_are =
                s.marks_so_far
                ∙ ap (λ (n : ℕ). over (so_many 2 (mark_in set.format) n) marks₀) whole
                ∙ hidden 2 missing (mark_in set.format) marks (omega arith) marked_is;
          }
