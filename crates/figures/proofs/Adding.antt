-- Laws of a sheet that is made log by log: when all logs are added, its rows and totals are those of the sheet.
-- Assumes nothing.
use mathlib.Core.Bool.{true, false}
use mathlib.Core.List.{List, [], ◌∷◌, ◌++◌, append_assoc, append-nil}
use mathlib.Core.Path.{◌≡◌, refl, sym, ◌∙◌, ap, ap₂}
use Prim.Native.Nat.{ℕ, ◌+◌, ◌*◌, ◌/◌, ◌≤◌, ◌<◌}
use native.Mathlib.Omega.{arith}
use borrow.Author.Tests.{le-leb, lt-leb}
use lib.ListN.{length, drop, length-append, length-drop}
use Rattle.runs.specs.Runs.{over, written}
use Rattle.runs.proofs.Laws.{split}
use Rattle.figures.specs.declared.Counts.{Counts}
use Rattle.figures.specs.Adding.{rows_with, Adds, closed_of, added_over}
use Rattle.figures.specs.Code.{no_counts, capped, held_row, held_rows}
use Rattle.figures.specs.Figures.{counts_of, too_many_of, plus_of}
use Rattle.figures.specs.Sheets.{Answer, heard_in, heard_over, totals_of, rows_of, refused_by}
use Rattle.figures.proofs.Going.{over_on, rows_small}
use Rattle.figures.proofs.Laws.{
  counts_none,
  counts_joined,
  plus_none,
  none_more,
  plus_in_turn,
  few,
  capped_both,
  capped_more,
  capped_many,
  capped_none,
  capped_small,
  row_small,
  length_row,
}

module _ (rows : List ℕ) (index : ℕ) (totals one : Counts) {answer : Counts} (added : answer ≡ capped (plus_of totals one)) where
  pub adds_past : length rows / 10 ≤ index → Adds rows index totals one answer rows
  unfolding rows_with
  adds_past past = record { totals_are = added; rows_after = sym (rw (le-leb (length rows / 10) index past) refl) }

  pub adds_row : {none counted : Counts} {row rows₁ : List ℕ} → index < length rows / 10 → none ≡ no_counts
      → counted ≡ capped (plus_of none one) → row ≡ held_row counted → rows₁ ≡ written rows (10 * index) row
      → Adds rows index totals one answer rows₁
  unfolding rows_with
  adds_row here is_none counts row_is wrote =
      let held = row_is ∙ ap held_row (counts ∙ ap (λ (c : Counts). capped (plus_of c one)) is_none ∙ ap capped (plus_none one)) in
      record {
        totals_are = added;
        rows_after = wrote ∙ ap (written rows (10 * index)) held ∙ sym (rw (lt-leb (length rows / 10) index here) refl);
      }

pub closed_many : (totals : Counts) {r : Answer} → too_many_of totals ≡ true → r ≡ refused_by 19 → r ≡ closed_of totals
unfolding closed_of
closed_many totals many e = e ∙ sym (rw many refl)

pub closed_few : (totals : Counts) {row : List ℕ} → too_many_of totals ≡ false → row ≡ held_row totals
    → record { refusal = 0; totals = row } ≡ closed_of totals
unfolding closed_of
closed_few totals low is =
    ap (λ (r : List ℕ). record { refusal = 0; totals = r }) (is ∙ row_small totals (few totals low)) ∙ sym (rw low refl)

pub few_row : (totals : Counts) → too_many_of totals ≡ false → (totals.sound ≤ 4294967296) × (totals.missing ≤ 4294967296)
few_row totals low = let small = few totals low in (omega (arith, small.sound), omega (arith, small.missing))

-- the totals behind the last log are those of all logs
added_from : (before : Counts) (rows : List ℕ) (index : ℕ) (logs : List (List ℕ))
    → (added_over (capped before) rows index logs).totals ≡ capped (plus_of before (totals_of logs))
unfolding added_over heard_over
added_from before rows index [] = ap capped (sym (ap (plus_of before) counts_none ∙ none_more before))
added_from before rows index (log ∷ logs) =
    let one : Counts = counts_of (heard_in log) in
    let rows₁ : List ℕ = rows_with rows index (capped one) in
    ap (λ (c : Counts). (added_over c rows₁ (index + 1) logs).totals) (capped_both before one)
    ∙ added_from (plus_of before one) rows₁ (index + 1) logs
    ∙ ap capped
    (plus_in_turn before one (totals_of logs) ∙ ap (plus_of before) (sym (counts_joined (heard_in log) (heard_over logs))))

pub added_totals : (rows : List ℕ) (logs : List (List ℕ)) → (added_over no_counts rows 0 logs).totals ≡ capped (totals_of logs)
added_totals rows logs =
    ap (λ (c : Counts). (added_over c rows 0 logs).totals) (sym capped_none)
    ∙ added_from no_counts rows 0 logs
    ∙ ap capped (plus_none (totals_of logs))

-- so the row of all together, or 19, is the sheet's
-- the row of counts, and 19, are those of the counts with no end
pub closed_capped : (c : Counts) → closed_of (capped c) ≡ closed_of c
unfolding closed_of
closed_capped c = split (too_many_of c) (λ e. rw (capped_many c, e) refl) (λ e. ap closed_of (capped_small c (few c e)))

pub added_closed : (rows : List ℕ) (logs : List (List ℕ))
    → closed_of (added_over no_counts rows 0 logs).totals ≡ closed_of (totals_of logs)
added_closed rows logs = ap closed_of (added_totals rows logs) ∙ closed_capped (totals_of logs)

capped_twice : (c : Counts) → capped (capped c) ≡ capped c
capped_twice c =
    ap capped (sym (none_more (capped c))) ∙ capped_more c no_counts ∙ ap capped (none_more c)

length_over : (new run : List ℕ) → length new ≤ length run → length (over new run) ≡ length run
unfolding over
length_over new run room = length-append new (drop (length new) run) ∙ omega (arith, length-drop (length new) run, room)

-- and the rows, each in its place, are the sheet's rows
module _ (rows₀ : List ℕ) where
  rows_from : (totals : Counts) (filled : List ℕ) (rows : List ℕ) (index : ℕ) (logs : List (List ℕ)) → length filled ≡ 10 * index
      → rows ≡ over filled rows₀ → length rows ≡ length rows₀ → 10 * index + 10 * length logs ≤ length rows₀
      → (added_over totals rows index logs).rows ≡ over (filled ++ held_rows logs) rows₀
  unfolding added_over held_rows rows_with
  rows_from totals filled rows index [] long is same room = is ∙ ap (λ (r : List ℕ). over r rows₀) (sym (append-nil filled))
  rows_from totals filled rows index (log ∷ logs) long is same room =
      let one : Counts = capped (counts_of (heard_in log)) in
      let row : List ℕ = held_row one in
      let next : Counts = capped (plus_of totals one) in
      let here : index < length rows / 10 = omega (arith, same, room) in
      let wrote : rows_with rows index one ≡ over (filled ++ row) rows₀ =
      rw (lt-leb (length rows / 10) index here)
      (ap (λ (c : Counts). written rows (10 * index) (held_row c)) (capped_twice (counts_of (heard_in log)))
      ∙ ap₂ (λ (r : List ℕ) (k : ℕ). written r k row) is (sym long)
      ∙ over_on rows₀ filled row) in
      let ten : length (filled ++ row) ≡ 10 * (index + 1) = length-append filled row ∙ omega (arith, long, length_row one) in
      let rows_next : List ℕ = over (filled ++ row) rows₀ in
      ap (λ (r : List ℕ). (added_over next r (index + 1) logs).rows) wrote
      ∙ rows_from next (filled ++ row) rows_next (index + 1) logs ten refl
      (length_over (filled ++ row) rows₀ (omega (arith, ten, room)))
      (omega (arith, room))
      ∙ ap (λ (r : List ℕ). over r rows₀) (append_assoc filled row (held_rows logs))

pub added_rows : (rows : List ℕ) (logs : List (List ℕ)) → 10 * length logs ≤ length rows → too_many_of (totals_of logs) ≡ false
    → (added_over no_counts rows 0 logs).rows ≡ over (rows_of logs) rows
unfolding over
added_rows rows logs room low =
    rows_from rows no_counts [] rows 0 logs refl refl refl (omega (arith, room))
    ∙ ap (λ (r : List ℕ). over r rows) (rows_small logs low)
