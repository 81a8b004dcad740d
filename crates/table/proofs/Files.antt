-- What is printed of files, each of them a whole log, whatever its division among the reads: their table.
-- Assumes nothing.
use Rattle.std.proofs.Common.{◌≡◌, ℕ, zero, suc, ◌+◌, ◌-◌, ◌<◌, ◌≤◌, false, ltb, List, [], ◌∷◌, ◌++◌, map, length, take, sym, refl, ap, ◌∙◌, subst, append_assoc, append-nil, arith, length-append, drop_of_length-le, ltb-false, ltb-true, le-ltb, lt-ltb}
use lib.ListN.{length-map}
use lib.Seq.{append_snoc, take-length}
use Rattle.runs.proofs.Laws.{split}
use Rattle.pieces.specs.Taken.{joined_of}
use Rattle.table.specs.declared.Input.{Input}
use Rattle.table.specs.declared.logs.Step.{Step}
use Rattle.table.specs.Table.{refused_line, table_of, printed_of_files}
use Rattle.table.specs.Taking.{
  between_of,
  left_of,
  last_of,
  first_of,
  next_input,
  Stood,
  counted_by,
  log_ended,
  settled_of,
  stepped_by,
  step_at,
  taken_from,
  taken_of,
  lines_of,
  taken_over,
  standing,
  log_opened,
  files_over,
  printed_over_files,
}
use Rattle.table.proofs.Counted.{Counted, counted_start, counted_by_lem, next_input_lem, counted_log}
use Rattle.table.proofs.Division.{input_of}
use Rattle.table.proofs.Printed.{one_line, stopped_last, lines_table}
use Rattle.table.proofs.Steps.{log_goes_lem, ahead_none, ahead_log}
use Rattle.table.proofs.Taken.{taken_skips}

-- nothing in a computer has 2^64 octets
abbrev pub Short : List (List (List ℕ)) → Type 0
Short [] = Unit {0}
Short (file ∷ files) = (length (joined_of file) < 18446744073709551615) × Short files

-- a piece of a log that goes on behind it: all its octets are counted
abbrev goes : Input → ℕ → Input
goes i room = left_of i (i.left - room)

piece_counted : (s : Stood) (o : ℕ) (os : List ℕ) → (input_of s).refusal ≡ 0 → suc (length os) < (input_of s).left
    → taken_of s (o ∷ os) ≡ counted_by s (goes (input_of s) (suc (length os))) (o ∷ os)
unfolding taken_from settled_of
piece_counted s o os none beyond =
    let room : ℕ = suc (length os) in
    let step : Step = record { input = goes (input_of s) room; octets = room; used = room; whole = false } in
    let is : step ≡ step_at s o os =
    ahead_log (input_of s) o room none (λ e. omega (arith, e, beyond)) (log_goes_lem (input_of s) room beyond) in
    let past : Stood = counted_by s (goes (input_of s) room) (o ∷ take (length os) os) in
    ap (λ (t : Step). taken_from (t.used - 1) (stepped_by t s (take t.octets (o ∷ os))) os) (sym is)
    ∙ taken_skips (room - 1) past os
    ∙ ap (λ (l : List ℕ). taken_of past l) (drop_of_length-le os {i = room - 1} (omega arith))
    ∙ ap (λ (l : List ℕ). counted_by s (goes (input_of s) room) (o ∷ l)) (take-length os)

module _ (rows₀ : List ℕ) where
  -- within a file, of which so many octets are read
  record InFile (s : Stood) (done : List (List ℕ)) (part : List ℕ) : Type 0 where
    counted : Counted rows₀ s done part
    none : (input_of s).refusal ≡ 0
    left : (input_of s).left + length part ≡ 18446744073709551615

  past_piece : {s : Stood} {done : List (List ℕ)} {part : List ℕ} (p : List ℕ) → length (part ++ p) < 18446744073709551615
      → InFile s done part → InFile (taken_of s p) done (part ++ p)
  unfolding taken_from
  past_piece {part = part} [] long w = rw (append-nil part) w
  past_piece {s} {done} {part} (o ∷ os) long w =
      let all : length (part ++ (o ∷ os)) ≡ length part + suc (length os) = length-append part (o ∷ os) in
      rw (piece_counted s o os w.none (omega (arith, w.left, all, long)))
      (record {
        counted = counted_by_lem rows₀ (goes (input_of s) (suc (length os))) (o ∷ os) refl w.counted;
        none = w.none;
        left = omega (arith, w.left, all, long);
      })

  past_pieces : {s : Stood} {done : List (List ℕ)} {part : List ℕ} (ps : List (List ℕ))
      → length (part ++ joined_of ps) < 18446744073709551615 → InFile s done part
      → InFile (taken_over s ps) done (part ++ joined_of ps)
  unfolding taken_over joined_of
  past_pieces {s} {done} {part} [] long w = rw (append-nil part) w
  past_pieces {s} {done} {part} (p ∷ ps) long w =
      let apart : (part ++ p) ++ joined_of ps ≡ part ++ (p ++ joined_of ps) = append_assoc part p (joined_of ps) in
      let front : length (part ++ p) < 18446744073709551615 =
      omega (arith, long, ap length apart, length-append (part ++ p) (joined_of ps)) in
      rw apart at (past_pieces {s = taken_of s p} {done = done} {part = part ++ p} ps (omega (arith, long, ap length apart)) (past_piece p front w))

  -- with these files read
  record Filed (s : Stood) (done : List (List ℕ)) : Type 0 where
    counted : Counted rows₀ s done []
    here : input_of s ≡ between_of 0 (length done)

  past_file : {s : Stood} {done : List (List ℕ)} (ps : List (List ℕ)) → length done < 4096
      → length (joined_of ps) < 18446744073709551615 → Filed s done
      → Filed (log_ended (taken_over (log_opened s) ps)) (done ++ (joined_of ps ∷ []))
  past_file {s} {done} ps few long f =
      let opened : InFile (log_opened s) done [] =
      record {
        counted = record {
          size = f.counted.size;
          logs = f.counted.logs;
          counts = f.counted.counts;
          adds = f.counted.adds;
        };
        none = ap (λ (i : Input). i.refusal) f.here;
        left = omega arith;
      } in
      let w = past_pieces ps long opened in
      record {
        counted = counted_log rows₀ few (omega (arith, long)) w.counted;
        here = next_input_lem rows₀ few w.counted ∙ rw (w.none, length-append done (joined_of ps ∷ []));
      }

  past_files : (s : Stood) (done : List (List ℕ)) (files : List (List (List ℕ))) → Short files
      → length done + length files ≤ 4096 → Filed s done → Filed (files_over s files) (done ++ map joined_of files)
  unfolding files_over
  past_files s done [] short few f = rw (append-nil done) f
  past_files s done (file ∷ files) short few f =
      let more : length (done ++ (joined_of file ∷ [])) ≡ length done + 1 = length-append done (joined_of file ∷ []) in
      rw (← append_snoc done (joined_of file) (map joined_of files))
      (past_files (log_ended (taken_over (log_opened s) file)) (done ++ (joined_of file ∷ [])) files short.1
      (omega (arith, more, few))
      (past_file file (omega (arith, few)) short.0 f))

-- more than 4,096 of them are refused, whatever is read
octets_refused : (used : ℕ) (s : Stood) (octets : List ℕ) → (input_of s).refusal ≡ 18
    → (input_of (taken_from used s octets)).refusal ≡ 18
unfolding taken_from settled_of
octets_refused used s [] is = is
octets_refused (suc used) s (o ∷ os) is = octets_refused used s os is
octets_refused zero s (o ∷ os) is =
    let none = ahead_none (input_of s) o (suc (length os)) (λ e. omega (arith, e, is)) in
    octets_refused ((step_at s o os).used - 1) (stepped_by (step_at s o os) s (take (step_at s o os).octets (o ∷ os))) os
    (subst (λ (t : Step). (input_of (stepped_by t s (take t.octets (o ∷ os)))).refusal ≡ 18) none is)

pieces_refused : (s : Stood) (ps : List (List ℕ)) → (input_of s).refusal ≡ 18 → (input_of (taken_over s ps)).refusal ≡ 18
unfolding taken_over
pieces_refused s [] is = is
pieces_refused s (p ∷ ps) is = pieces_refused (taken_of s p) ps (octets_refused 0 s p is)

ends_refused : (s : Stood) → (input_of s).refusal ≡ 18 → (input_of (log_ended s)).refusal ≡ 18
unfolding next_input
ends_refused s is = split (ltb 4095 (input_of s).logs) (λ t. rw t refl) (λ t. rw t is)

all_refused : (s : Stood) (files : List (List (List ℕ))) → (input_of s).refusal ≡ 18 → (input_of (files_over s files)).refusal ≡ 18
unfolding files_over
all_refused s [] is = is
all_refused s (file ∷ files) is =
    all_refused (log_ended (taken_over (log_opened s) file)) files
    (ends_refused (taken_over (log_opened s) file) (pieces_refused (log_opened s) file is))

-- "`sheet FILE..` takes many, each a whole log": however each is divided among the reads, their table is printed
module _ (held rows kept : List ℕ) where
  many_files : (s : Stood) → (input_of s).refusal ≡ 18 → lines_of s ≡ refused_line 18
  many_files s is = one_line s (stopped_last (input_of s) (λ e. omega (arith, e, is)) ∙ is) (λ e. omega (arith, e))

  too_many : (files : ℕ) → 4096 < files → (input_of (standing files held rows kept)).refusal ≡ 18
  unfolding first_of
  too_many files many = rw (lt-ltb 4096 files many)

  -- more than 4,096 are refused before one is read
  pub refused_unread : (files : ℕ) → 4096 < files → lines_of (standing files held rows kept) ≡ refused_line 18
  refused_unread files many = many_files (standing files held rows kept) (too_many files many)

  few_files : (files : List (List (List ℕ))) → length files ≤ 4096 → length held ≡ 49 → 40960 ≤ length rows → Short files
      → printed_over_files held rows kept files ≡ table_of (map joined_of files)
  unfolding first_of last_of
  few_files files few size room short =
      let past : Stood = files_over (standing (length files) held rows kept) files in
      let begun : Filed rows (standing (length files) held rows kept) [] =
      record { counted = counted_start rows (length files) held kept size; here = rw (le-ltb 4096 (length files) few) } in
      let filed : Filed rows past (map joined_of files) =
      past_files rows (standing (length files) held rows kept) [] files short (omega (arith, few)) begun in
      lines_table rows room filed.counted (omega (arith, few, length-map files joined_of)) (ap last_of filed.here)

  pub any_division_files : (files : List (List (List ℕ))) → length held ≡ 49 → 40960 ≤ length rows → Short files
      → printed_over_files held rows kept files ≡ printed_of_files (map joined_of files)
  unfolding printed_of_files
  any_division_files files size room short =
      let start : Stood = standing (length files) held rows kept in
      let same : length (map joined_of files) ≡ length files = length-map files joined_of in
      split (ltb 4096 (length files))
      (λ t.
      rw (same, t)
      (many_files (files_over start files) (all_refused start files (too_many (length files) (ltb-true 4096 (length files) t)))))
      (λ t. rw (same, t) (few_files files (ltb-false 4096 (length files) t) size room short))
