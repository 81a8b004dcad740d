-- The lines of a sheet whose logs are all added: joined, they are the table of these logs.
-- Assumes nothing.
use Rattle.std.proofs.Common.{◌≡◌, ℕ, suc, ◌+◌, ◌-◌, ◌*◌, ◌/◌, ◌%◌, ◌^◌, ◌<◌, ◌≤◌, List, [], ◌∷◌, ◌++◌, length, drop, sym, refl, ap, ◌∙◌, ap₂, append_assoc, append-nil, mod-eq_of_lt, arith, length-append, take_at, drop_at, ne_eqb, le-leb}
use borrow.Author.Tests.{lt-leb}
use Rattle.runs.specs.Runs.{over}
use Rattle.runs.proofs.Laws.{split}
use Rattle.figures.specs.declared.Counts.{Counts}
use Rattle.figures.specs.Adding.{closed_of, Added, added_over}
use Rattle.figures.specs.Code.{no_counts}
use Rattle.figures.specs.Figures.{counts_of, row_of, too_many_of}
use Rattle.figures.specs.Sheets.{Answer, heard_in, totals_of, rows_of, refused_by}
use Rattle.figures.proofs.Adding.{added_closed, added_rows}
use Rattle.table.specs.declared.Input.{Input}
use Rattle.table.specs.Table.{names_line, log_line, all_line, refused_line, log_lines, table_of}
use Rattle.table.specs.Taking.{Ended, Stood, last_of, refused_end, closed_end, ended_of, row_at, line_of, lines_from, lines_of}
use Rattle.table.proofs.Counted.{Counted}

-- the row at a log's place
row_at_lem : (before row past : List ℕ) (log : ℕ) → length before ≡ 10 * log → length row ≡ 10
    → row_at (before ++ (row ++ past)) log ≡ row
unfolding row_at
row_at_lem before row past log long ten =
    let all : length (before ++ (row ++ past)) ≡ 10 * log + (10 + length past) =
    length-append before (row ++ past) ∙ omega (arith, length-append row past, long, ten) in
    rw (
      lt-leb (length (before ++ (row ++ past)) / 10) log (omega (arith, all)),
      drop_at before (row ++ past) (10 * log) long,
      take_at row past 10 ten,
    )

ten_numbers : (c : Counts) → length (row_of c) ≡ 10
unfolding row_of
ten_numbers c = refl

module _ (e : Ended) (given : e.answer.refusal ≡ 0) (rows : List ℕ) where
  log_line_lem : (log : ℕ) → log + 1 ≤ e.logs → line_of e rows (log + 1) ≡ log_line log (row_at rows log)
  unfolding line_of
  log_line_lem log within =
      let before : log + 1 - 1 ≡ log = omega arith in
      rw (given, ne_eqb (log + 1) 0 (λ h. omega (arith, h)), le-leb (log + 1) e.logs within, before)

  all_line_lem : (index : ℕ) → e.logs < index → line_of e rows index ≡ all_line e.answer.totals
  unfolding line_of
  all_line_lem index past = rw (given, ne_eqb index 0 (λ h. omega (arith, h, past)), lt-leb index e.logs past)

  -- the lines of logs from one on, and the line of all together
  lines_from_lem : (before : List ℕ) (logs : List (List ℕ)) (past : List ℕ) (log : ℕ) → rows ≡ before ++ (rows_of logs ++ past)
      → length before ≡ 10 * log → e.logs ≡ log + length logs
      → lines_from e rows (log + 1) (suc (length logs)) ≡ log_lines log logs ++ all_line e.answer.totals
  unfolding lines_from log_lines rows_of
  lines_from_lem before [] past log is long n =
      append-nil (line_of e rows (log + 1)) ∙ all_line_lem (log + 1) (omega (arith, n))
  lines_from_lem before (one ∷ logs) past log is long n =
      let row : List ℕ = row_of (counts_of (heard_in one)) in
      let ten : length row ≡ 10 = ten_numbers (counts_of (heard_in one)) in
      let apart : rows ≡ before ++ (row ++ (rows_of logs ++ past)) =
      is ∙ ap (λ (l : List ℕ). before ++ l) (append_assoc row (rows_of logs) past) in
      let line : line_of e rows (log + 1) ≡ log_line log row =
      log_line_lem log (omega (arith, n))
      ∙ ap (log_line log)
      (ap (λ (l : List ℕ). row_at l log) apart ∙ row_at_lem before row (rows_of logs ++ past) log long ten) in
      let more : lines_from e rows (log + 1 + 1) (suc (length logs)) ≡ log_lines (log + 1) logs ++ all_line e.answer.totals =
      lines_from_lem (before ++ row) logs past (log + 1) (apart ∙ sym (append_assoc before row (rows_of logs ++ past)))
      (length-append before row ∙ omega (arith, long, ten)) (omega (arith, n)) in
      ap₂ ◌++◌ line more ∙ sym (append_assoc (log_line log row) (log_lines (log + 1) logs) (all_line e.answer.totals))

-- what is printed of a sheet at its end
abbrev printed : Ended → List ℕ → List ℕ
printed e rows = lines_from e rows 0 e.lines

-- one line alone of a sheet that is refused
refused_line_lem : (answer : Answer) (rows : List ℕ) → (answer.refusal ≡ 0 → ⊥)
    → printed (refused_end answer) rows ≡ refused_line answer.refusal
unfolding lines_from line_of
refused_line_lem answer rows some = rw (ne_eqb answer.refusal 0 some) (append-nil (refused_line answer.refusal))

-- the one line of a sheet whose input is refused at its end
pub one_line : (s : Stood) {refusal : ℕ} → last_of s.sheet.input ≡ refusal → (refusal ≡ 0 → ⊥) → lines_of s ≡ refused_line refusal
unfolding ended_of
one_line s {refusal} is some =
    let at : ended_of s.sheet ≡ refused_end (refused_by refusal) = rw (is, ne_eqb refusal 0 some) in
    ap (λ (e : Ended). printed e s.rows) at ∙ refused_line_lem (refused_by refusal) s.rows some

pub stopped_last : (i : Input) → (i.refusal ≡ 0 → ⊥) → last_of i ≡ i.refusal
unfolding last_of
stopped_last i some = rw (ne_eqb i.refusal 0 some)

-- all lines of one that isn't
abbrev whole : List ℕ → ℕ → Ended
whole totals logs = record { answer = record { refusal = 0; totals = totals }; logs = logs; lines = suc (suc logs) }

all_lines : (totals rows : List ℕ) (logs : List (List ℕ)) (past : List ℕ) → rows ≡ rows_of logs ++ past
    → printed (whole totals (length logs)) rows ≡ names_line ++ (log_lines 0 logs ++ all_line totals)
unfolding lines_from line_of
all_lines totals rows logs past is =
    ap (λ (l : List ℕ). names_line ++ l)
    (lines_from_lem (whole totals (length logs)) refl rows [] logs past 0 is refl (omega arith))

-- the sheet with these logs added prints their table
module _ (rows₀ : List ℕ) (room : 40960 ≤ length rows₀) {s : Stood} {done : List (List ℕ)} {part : List ℕ}
    (c : Counted rows₀ s done part) (few : length done ≤ 4096) (none : last_of s.sheet.input ≡ 0)
  where
    abbrev all : Counts
    all = totals_of done

    added : record { totals = s.sheet.totals; rows = s.rows } ≡ added_over no_counts rows₀ 0 done
    unfolding added_over
    added = rw append-nil at (c.adds [])

    closed : closed_of s.sheet.totals ≡ closed_of all
    closed = ap (λ (a : Added). closed_of a.totals) added ∙ added_closed rows₀ done

    ended : (answer : Answer) → closed_of all ≡ answer → ended_of s.sheet ≡ closed_end answer (length done)
    unfolding ended_of
    ended answer is = rw (none, closed, is, c.logs)

    pub lines_table : lines_of s ≡ table_of done
    unfolding table_of closed_of closed_end over
    lines_table =
        split (too_many_of all)
        (λ t.
        let answer : Answer = refused_by 19 in
        ap (λ (e : Ended). printed e s.rows) (ended answer (rw t))
        ∙ refused_line_lem answer s.rows (λ e. omega (arith, e))
        ∙ sym (rw t))
        (λ t.
        let answer : Answer = record { refusal = 0; totals = row_of all } in
        let past : List ℕ = drop (length (rows_of done)) rows₀ in
        let wrote : s.rows ≡ rows_of done ++ past =
        ap (λ (a : Added). a.rows) added ∙ added_rows rows₀ done (omega (arith, room, few)) t in
        let n : (length done + 2) % 2 ^ 64 ≡ suc (suc (length done)) = mod-eq_of_lt (omega (arith, few)) ∙ omega arith in
        let is : closed_end answer (length done) ≡ whole (row_of all) (length done) = rw n in
        ap (λ (e : Ended). printed e s.rows) (ended answer (rw t) ∙ is)
        ∙ all_lines (row_of all) s.rows done past wrote
        ∙ sym (rw t))
