-- Laws of where a log stopped and of the line that says it, over plain values: a law for each return, and how long the line is.
-- Assumes nothing.
use mathlib.Core.Bool.{true}
use mathlib.Core.List.{List, [], ◌++◌}
use mathlib.Core.Path.{◌≡◌}
use Prim.Native.Nat.{ℕ, ◌≤◌}
use native.Mathlib.Omega.{arith}
use borrow.Author.Tests.{eq-eqb, ne_eqb}
use lib.Dec.{eqb}
use lib.ListN.{length, length-append}
use Rattle.runs.proofs.Laws.{split}
use Rattle.text.specs.declared.Put.{Put}
use Rattle.text.specs.Put.{Puts}
use Rattle.text.specs.Text.{item}
use Rattle.text.specs.Words.{words}
use Rattle.text.proofs.Laws.{puts_same, said_from_start, wrote_from_start}
use Rattle.text.proofs.Short.{with_words, one_item, listed_whole}
use Rattle.pieces.specs.declared.Standing.{Standing}
use Rattle.pieces.specs.Steps.{taking_of}
use Rattle.pieces.specs.Taken.{end_fault}
use Rattle.stops.specs.declared.Stop.{Stop}
use Rattle.stops.specs.Stops.{stop_by, end_stop, stop_of, begin_of, reason_of, line_of, Writes}

module _ (s : Standing) (held : List ℕ) where
  pub stop_refused : s.stage ≡ 2 → stop_by 1 s.fault s.records ≡ stop_of s held
  unfolding stop_of
  stop_refused e = rw (eq-eqb s.stage 2 e)

  pub stop_broken : (s.stage ≡ 2 → ⊥) → s.stage ≡ 3 → stop_by 2 s.fault s.records ≡ stop_of s held
  unfolding stop_of
  stop_broken n e = rw (ne_eqb s.stage 2 n, eq-eqb s.stage 3 e)

  module _ (n : s.stage ≡ 2 → ⊥) (m : s.stage ≡ 3 → ⊥) {refusal : ℕ} (is : refusal ≡ end_fault (taking_of s held)) where
    pub stop_well : refusal ≡ 0 → stop_by 0 0 s.records ≡ stop_of s held
    unfolding stop_of end_stop
    stop_well e = rw (ne_eqb s.stage 2 n, ne_eqb s.stage 3 m, ← is, eq-eqb refusal 0 e)

    pub stop_header : (refusal ≡ 0 → ⊥) → s.stage ≡ 0 → stop_by 1 refusal s.records ≡ stop_of s held
    unfolding stop_of end_stop
    stop_header some e = rw (ne_eqb s.stage 2 n, ne_eqb s.stage 3 m, ← is, ne_eqb refusal 0 some, eq-eqb s.stage 0 e)

    pub stop_cut : (refusal ≡ 0 → ⊥) → (s.stage ≡ 0 → ⊥) → stop_by 2 refusal s.records ≡ stop_of s held
    unfolding stop_of end_stop
    stop_cut some e = rw (ne_eqb s.stage 2 n, ne_eqb s.stage 3 m, ← is, ne_eqb refusal 0 some, ne_eqb s.stage 0 e)

-- the line
module _ (s : Stop) where
  pub begin_header : s.what ≡ 1 → item (words "the log is refused ") s.refusal ≡ begin_of s
  unfolding begin_of
  begin_header e = rw (eq-eqb s.what 1 e)

  pub begin_record : (s.what ≡ 1 → ⊥) → item (words "record ") s.number ++ item (words " broken ") s.refusal ≡ begin_of s
  unfolding begin_of
  begin_record n = rw (ne_eqb s.what 1 n)

  pub line_none : s.what ≡ 0 → [] ≡ line_of s
  unfolding line_of
  line_none e = rw (eq-eqb s.what 0 e)

  pub line_some : (s.what ≡ 0 → ⊥) → begin_of s ++ reason_of s.refusal ++ words "\n" ≡ line_of s
  unfolding line_of
  line_some n = rw (ne_eqb s.what 0 n)

  pub writes : {run after : List ℕ} {past : Put} {octets : List ℕ} → octets ≡ line_of s
      → Puts run (record { octets = 0; whole = true }) after past octets → Writes s run past after
  writes same puts =
      let all = puts_same same puts in record { printed = said_from_start all; wrote = wrote_from_start all }

-- it has at most 128 octets, so it is whole in a run of as many
reason_short : (refusal : ℕ) → length (reason_of refusal) ≤ 60
unfolding reason_of
reason_short refusal =
    split (eqb refusal 1) (λ a. rw a (omega arith))
    (λ a. split (eqb refusal 2) (λ b. rw (a, b) (omega arith))
    (λ b. split (eqb refusal 3) (λ d. rw (a, b, d) (omega arith))
    (λ d. split (eqb refusal 11) (λ e. rw (a, b, d, e) (omega arith))
    (λ e. split (eqb refusal 12) (λ f. rw (a, b, d, e, f) (omega arith))
    (λ f. split (eqb refusal 13) (λ g. rw (a, b, d, e, f, g) (omega arith)) (λ g. rw (a, b, d, e, f, g) (omega arith)))))))

begin_short : (s : Stop) → length (begin_of s) ≤ 60
unfolding begin_of
begin_short s =
    split (eqb s.what 1)
    (λ a. rw a (omega (arith, one_item (words "the log is refused ") s.refusal {b = 19} (omega arith))))
    (λ a. rw (a, length-append (item (words "record ") s.number) (item (words " broken ") s.refusal))
    (omega (arith, one_item (words "record ") s.number {b = 7} (omega arith), one_item (words " broken ") s.refusal {b = 8} (omega arith))))

line_short : (s : Stop) → length (line_of s) ≤ 121
unfolding line_of
line_short s =
    split (eqb s.what 0)
    (λ a. rw a (omega arith))
    (λ a.
    let two = with_words (begin_of s) (reason_of s.refusal) {a = 60} {b = 60} (begin_short s) (reason_short s.refusal) in
    rw a (omega (arith, with_words (begin_of s ++ reason_of s.refusal) (words "\n") {a = 120} {b = 1} (omega (arith, two)) (omega arith))))

pub writes_whole : {s : Stop} {run after : List ℕ} {past : Put} → Writes s run past after → 128 ≤ length run
    → (past.whole ≡ true) × (past.octets ≤ length run)
writes_whole {s} {run} w room = listed_whole (line_of s) run 121 (line_short s) (omega (arith, room)) w.printed
