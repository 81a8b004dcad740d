-- How long the lines of a table are at most, so that each is whole in a run of 512 octets.
-- Assumes nothing.
use Rattle.std.proofs.Common.{◌≡◌, ℕ, ◌-◌, ◌*◌, ◌/◌, ◌≤◌, true, eqb, leb, List, [], ◌∷◌, ◌++◌, length, drop, sym, refl, ap, ◌∙◌, arith, length-append}
use Rattle.runs.proofs.Laws.{split}
use Rattle.figures.specs.Sheets.{Answer}
use Rattle.figures.specs.Adding.{closed_of}
use Rattle.figures.specs.Figures.{row_of, too_many_of}
use Rattle.text.specs.declared.Put.{Put}
use Rattle.text.specs.Text.{decimal, item}
use Rattle.text.specs.Words.{words}
use Rattle.text.proofs.Short.{take_to, with_words, one_item, listed_whole}
use Rattle.table.specs.declared.Ended as code
use Rattle.table.specs.declared.Sheet.{Sheet}
use Rattle.table.specs.Table.{cells_of, Prints, refused_line}
use Rattle.table.specs.Taking.{Ended, end_as, last_of, closed_end, ended_of, row_at, line_of}

length_cells : (row : List ℕ) → length (cells_of row) ≤ 21 * length row
unfolding cells_of
length_cells [] = omega arith
length_cells (n ∷ row) =
    rw (length-append (item (words ",") n) (cells_of row))
    (omega (arith, one_item (words ",") n {b = 1} (omega arith), length_cells row))

row_short : (begins row : List ℕ) → length begins ≤ 20 → length row ≤ 10 → length (begins ++ (cells_of row ++ words "\n")) ≤ 231
row_short begins row few ten =
    rw (length-append begins (cells_of row ++ words "\n"), length-append (cells_of row) (words "\n"))
    (omega (arith, few, ten, length_cells row))

row_ten : (rows : List ℕ) (log : ℕ) → length (row_at rows log) ≤ 10
unfolding row_at
row_ten rows log =
    split (leb (length rows / 10) log) (λ t. rw t (omega arith)) (λ t. rw t (take_to 10 (drop (10 * log) rows)))

refused_short : (refusal : ℕ) → length (refused_line refusal) ≤ 231
refused_short refusal =
    let line = with_words (item (words "sheet refused ") refusal) (words "\n") {a = 34} {b = 1}
    (one_item (words "sheet refused ") refusal {b = 14} (omega arith)) (omega arith) in
    omega (arith, line)

module _ (e : Ended) (rows : List ℕ) (index : ℕ) (ten : 10 ≡ length e.answer.totals) where
  line_short : length (line_of e rows index) ≤ 231
  unfolding line_of
  line_short =
      split (eqb e.answer.refusal 0)
      (λ a.
      split (eqb index 0)
      (λ b. rw (a, b) (omega arith))
      (λ b.
      split (leb index e.logs)
      (λ c.
      let few : length (decimal (index - 1)) ≤ 20 = omega (arith, one_item [] (index - 1) {b = 0} (omega arith)) in
      rw (a, b, c) (row_short (decimal (index - 1)) (row_at rows (index - 1)) few (row_ten rows (index - 1))))
      (λ c. rw (a, b, c) (row_short (words "all") e.answer.totals (omega arith) (omega (arith, ten))))))
      (λ a. rw a (refused_short e.answer.refusal))

  pub line_whole : {run run₁ : List ℕ} {past : Put} → 512 ≤ length run → Prints run past run₁ (line_of e rows index)
      → (past.whole ≡ true) × (past.octets ≤ length run)
  line_whole {run} room p = listed_whole (line_of e rows index) run 231 line_short (omega arith) p.said

-- the row of all logs together has ten numbers
closed_ten : (answer : Answer) (logs : ℕ) → 10 ≡ length answer.totals → 10 ≡ length (closed_end answer logs).answer.totals
unfolding closed_end
closed_ten answer logs ten = split (eqb answer.refusal 0) (λ t. rw t ten) (λ t. rw t ten)

ended_ten : (s : Sheet) → 10 ≡ length (ended_of s).answer.totals
unfolding ended_of closed_of row_of
ended_ten s =
    split (eqb (last_of s.input) 0)
    (λ t. rw t (closed_ten (closed_of s.totals) s.input.logs (split (too_many_of s.totals) (λ m. rw m refl) (λ m. rw m refl))))
    (λ t. rw t refl)

pub ten_numbers : (s : Sheet) {e : code.Ended} → end_as e ≡ ended_of s → 10 ≡ length e.totals
ten_numbers s is = ended_ten s ∙ sym (ap (λ (e : Ended). length e.answer.totals) is)
