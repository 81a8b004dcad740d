-- Wrong answers to the public functions: the contracts rule each of them out. Stated over the contracts themselves.
-- Assumes nothing.
use Rattle.std.proofs.Common.{◌≡◌, ℕ, true, false, List, [], ◌∷◌, get_or, replicate, sym, ap, ◌∙◌, true≢false, arith}
use contract.Lifetimes.{Lfts}
use Rattle.runs.specs.Runs.{over}
use Rattle.runs.proofs.Wrong.{Never, Place, lent, lent_mut}
use Rattle.pieces.proofs.Wrong as pieces
use Rattle.pieces.specs.Steps.{steps_from, stood_of}
use Rattle.figures.specs.Adding.{rows_with, closed_of}
use Rattle.figures.specs.Code.{no_counts, cap_of, capped, held_row}
use Rattle.figures.specs.Figures.{per_million, row_of, too_many_of}
use Rattle.figures.specs.Taking.{part_noted, noted_by, start_tally}
use Rattle.stops.specs.Kept.{kept_with}
use Rattle.stops.specs.Stops.{end_stop, stop_of}
use Rattle.text.specs.declared.Put.{Put}
use Rattle.text.specs.Text.{digits_of}
use Rattle.text.specs.Words.{words}
use Rattle.table.specs.declared.Ended as code
use Rattle.table.specs.declared.Input.{Input}
use Rattle.table.specs.declared.Sheet.{Sheet}
use Rattle.table.specs.Table.{cells_of}
use Rattle.table.specs.Taking.{
  Ended,
  end_as,
  between_of,
  goes_on_of,
  length_step,
  log_step,
  step_of,
  last_of,
  first_of,
  next_input,
  start_of,
  Stood,
  settled_of,
  taken_from,
  closed_end,
  ended_of,
  row_at,
  line_of,
}
use Rattle.table.proofs.end.Kinds as end-kinds
use Rattle.table.proofs.end.Reads as end_reads
use Rattle.table.proofs.line.Kinds as line-kinds
use Rattle.table.proofs.line.Reads as line-reads
use Rattle.table.proofs.next_log.Kinds as next-kinds
use Rattle.table.proofs.next_log.Reads as next-reads
use Rattle.table.proofs.open_log.Kinds as open-kinds
use Rattle.table.proofs.open_log.Reads as open-reads
use Rattle.table.proofs.reads_on.Kinds as reads-on-kinds
use Rattle.table.proofs.reads_on.Reads as reads-on-reads
use Rattle.table.proofs.start.Kinds as start-kinds
use Rattle.table.proofs.start.Reads as start-reads
use Rattle.table.proofs.take.Kinds as take-kinds
use Rattle.table.proofs.take.Reads as take-reads

-- every definition on the way down to the numbers
unfolded : Unit {0}
unfolding goes_on_of length_step log_step step_of last_of first_of next_input settled_of taken_from closed_end ended_of row_at line_of
unfolded = tt

counted : Unit {0}
unfolding unfolded pieces.unfolded pieces.steps_unfolded steps_from stood_of cap_of capped held_row per_million row_of too_many_of rows_with
    closed_of part_noted noted_by
counted = tt

stopped : Unit {0}
unfolding unfolded pieces.unfolded pieces.steps_unfolded end_stop stop_of kept_with
stopped = tt

printed : Unit {0}
unfolding unfolded over digits_of cells_of
printed = tt

-- a sheet that stands here, with nothing counted
abbrev at : Input → Sheet
at i = record { input = i; tally = start_tally; totals = no_counts }

-- within the third log, seven octets before its end; and with nine digits of a length read
abbrev seven : Input
seven = record { refusal = 0; logs = 2; left = 7; digits = 0; number = 0 }

abbrev nine : Input
nine = record { refusal = 0; logs = 0; left = 0; digits = 9; number = 429496729 }

module _ (κs : Lfts 0) where
  abbrev Started : ℕ → (Sheet → Type 0) → Type 0
  Started files Wrong = Never start-kinds.ps start-kinds.r start-reads.Post κs (files, tt) (λ x v. Wrong x)

  -- 4,097 files taken, and 4,096 refused
  pub many_files_not_taken : Started 4097 (λ x. x.input.refusal ≡ 0)
  unfolding unfolded
  many_files_not_taken x v wrong s = let right : x.input.refusal ≡ 18 = ap (λ (t : Sheet). t.input.refusal) s in omega arith

  pub most_files_not_refused : Started 4096 (λ x. x.input.refusal ≡ 18)
  unfolding unfolded
  most_files_not_refused x v wrong s = let right : x.input.refusal ≡ 0 = ap (λ (t : Sheet). t.input.refusal) s in omega arith

  -- a sheet that reads on behind a refusal, and one that stops before
  pub refused_reads_no_more : Never reads-on-kinds.ps reads-on-kinds.r reads-on-reads.Post κs (at (between_of 18 4096), tt) (λ x v. x ≡ true)
  refused_reads_no_more x v wrong s = true≢false (sym wrong ∙ s)

  pub whole_log_reads_on : Never reads-on-kinds.ps reads-on-kinds.r reads-on-reads.Post κs (at (between_of 0 7), tt) (λ x v. x ≡ false)
  whole_log_reads_on x v wrong s = true≢false (sym s ∙ wrong)

  abbrev Opened : (Sheet → Type 0) → Type 0
  Opened Wrong = Never open-kinds.ps open-kinds.r open-reads.Post κs (at (between_of 0 2), tt) (λ x v. Wrong x)

  -- a file's log taken for one of no octets, and counted before it is read
  pub file_not_empty : Opened (λ x. x.input.left ≡ 0)
  file_not_empty x v wrong s =
      let right : x.input.left ≡ 18446744073709551615 = ap (λ (t : Sheet). t.input.left) s in omega arith

  pub file_not_counted_yet : Opened (λ x. x.input.logs ≡ 3)
  file_not_counted_yet x v wrong s = let right : x.input.logs ≡ 2 = ap (λ (t : Sheet). t.input.logs) s in omega arith

  abbrev Closed : Sheet → (Ended → Type 0) → Type 0
  Closed sheet Wrong = Never end-kinds.ps end-kinds.r end_reads.Post κs (sheet, tt) (λ x v. Wrong (end_as x))

  -- an input that ends within a log taken, and no input at all refused
  pub cut_log_not_taken : Closed (at seven) (λ x. x.answer.refusal ≡ 0)
  unfolding counted
  cut_log_not_taken x v wrong s = let right : x.refusal ≡ 5 = ap (λ (e : Ended). e.answer.refusal) s in omega arith

  pub no_input_not_refused : Closed (start_of 0) (λ x. x.answer.refusal ≡ 5)
  unfolding counted
  no_input_not_refused x v wrong s = let right : x.refusal ≡ 0 = ap (λ (e : Ended). e.answer.refusal) s in omega arith

  -- the line of all together left out
  pub all_not_left_out : Closed (at (between_of 0 3)) (λ x. x.lines ≡ 4)
  unfolding counted
  all_not_left_out x v wrong s = let right : x.lines ≡ 5 = ap (λ (e : Ended). e.lines) s in omega arith

module _ (κs : Lfts 4) (p q q₁ r : Place) where
  -- a piece of standard input, with twenty nines lent for rows, and six for where logs stopped
  abbrev Taken : Sheet → List ℕ → (Sheet → List ℕ → Type 0) → Type 0
  Taken sheet piece Wrong =
      Never take-kinds.ps take-kinds.r take-reads.Post κs
      (sheet, (lent_mut p (replicate 49 0), (lent_mut q (replicate 20 9), (lent_mut q₁ (replicate 6 9), (lent r piece, tt)))))
      (λ x v. Wrong x v.1.1.0)

  -- a newline alone taken for a length of 0
  pub newline_no_length : Taken (start_of 0) (words "\n") (λ x rows. x.input.refusal ≡ 0)
  unfolding counted
  newline_no_length x v wrong s =
      let right : x.input.refusal ≡ 5 = ap (λ (t : Stood). t.sheet.input.refusal) s.stands in omega arith

  -- a number above 4,294,967,295 cut to 32 bits
  pub long_length_not_cut : Taken (at nine) (words "6") (λ x rows. x.input.refusal ≡ 0)
  unfolding counted
  long_length_not_cut x v wrong s =
      let right : x.input.refusal ≡ 5 = ap (λ (t : Stood). t.sheet.input.refusal) s.stands in omega arith

  -- an octet behind the 4,096th log that isn't a digit told as 5, and a digit there taken
  pub behind_last_log_not_5 : Taken (at (between_of 0 4096)) (words "A") (λ x rows. x.input.refusal ≡ 5)
  unfolding counted
  behind_last_log_not_5 x v wrong s =
      let right : x.input.refusal ≡ 18 = ap (λ (t : Stood). t.sheet.input.refusal) s.stands in omega arith

  pub behind_last_log_not_taken : Taken (at (between_of 0 4096)) (words "0") (λ x rows. x.input.refusal ≡ 0)
  unfolding counted
  behind_last_log_not_taken x v wrong s =
      let right : x.input.refusal ≡ 18 = ap (λ (t : Stood). t.sheet.input.refusal) s.stands in omega arith

  -- octets of the next length taken for the log's
  pub next_length_not_shared : Taken (start_of 0) (words "1\nV12\n") (λ x rows. x.input.left ≡ 0)
  unfolding counted
  next_length_not_shared x v wrong s =
      let right : x.input.left ≡ 12 = ap (λ (t : Stood). t.sheet.input.left) s.stands in omega arith

  -- the octets of a record that isn't whole yet forgotten
  pub octets_not_forgotten : Taken (at seven) (0x56 ∷ 2 ∷ 0 ∷ 0 ∷ 7 ∷ []) (λ x rows. x.tally.standing.count ≡ 0)
  unfolding counted
  octets_not_forgotten x v wrong s =
      let right : x.tally.standing.count ≡ 2 = ap (λ (t : Stood). t.sheet.tally.standing.count) s.stands in omega arith

  -- a log of no octets passed over: neither counted nor with a row
  pub empty_log_not_passed_over : Taken (start_of 0) (words "0\n") (λ x rows. x.input.logs ≡ 0)
  unfolding counted
  empty_log_not_passed_over x v wrong s =
      let right : x.input.logs ≡ 1 = ap (λ (t : Stood). t.sheet.input.logs) s.stands in omega arith

  pub row_not_left_out : Taken (start_of 0) (words "0\n") (λ x rows. get_or rows 0 0 ≡ 9)
  unfolding counted
  row_not_left_out x v wrong s =
      let right : get_or v.1.1.0 0 0 ≡ 0 = ap (λ (t : Stood). get_or t.rows 0 0) s.stands in omega arith

module _ (κs : Lfts 2) (p q : Place) where
  -- a log of no octets ends here: its header is refused by 11
  abbrev Next : Input → (Sheet → List ℕ → List ℕ → Type 0) → Type 0
  Next i Wrong =
      Never next-kinds.ps next-kinds.r next-reads.Post κs
      (at i, (replicate 49 0, (lent_mut p (replicate 30 9), (lent_mut q (replicate 9 9), tt)))) (λ x v. Wrong x v.1.1.0 v.1.1.1.0)

  -- a log whose header is refused, told as one that ended well
  pub refused_log_not_well : Next (between_of 0 0) (λ x rows kept. get_or kept 0 0 ≡ 0)
  unfolding counted stopped
  refused_log_not_well x v wrong s =
      let right : get_or v.1.1.1.0 0 0 ≡ 1 = ap (λ (l : List ℕ). get_or l 0 0) s.kept_after in omega arith

  -- by which number, left out
  pub refused_log_has_number : Next (between_of 0 0) (λ x rows kept. get_or kept 1 0 ≡ 0)
  unfolding counted stopped
  refused_log_has_number x v wrong s =
      let right : get_or v.1.1.1.0 1 0 ≡ 11 = ap (λ (l : List ℕ). get_or l 1 0) s.kept_after in omega arith

  -- a whole log not counted, its row in the first log's place, and a log more than 4,096 taken
  pub log_not_uncounted : Next seven (λ x rows kept. x.input.logs ≡ 2)
  unfolding counted
  log_not_uncounted x v wrong s = let right : x.input.logs ≡ 3 = ap (λ (t : Sheet). t.input.logs) s.goes_on in omega arith

  pub row_not_first : Next seven (λ x rows kept. get_or rows 0 0 ≡ 0)
  unfolding counted
  row_not_first x v wrong s = let right : get_or v.1.1.0 0 0 ≡ 9 = ap (λ (l : List ℕ). get_or l 0 0) s.rows_after in omega arith

  pub log_4097_not_taken : Next (between_of 0 4096) (λ x rows kept. x.input.refusal ≡ 0)
  unfolding counted
  log_4097_not_taken x v wrong s =
      let right : x.input.refusal ≡ 18 = ap (λ (t : Sheet). t.input.refusal) s.goes_on in omega arith

-- a sheet of one log at its end, with this refusal; and the row of that log
abbrev one : ℕ → code.Ended
one refusal = record { refusal = refusal; totals = 5 ∷ 3 ∷ []; logs = 1; lines = 3 }

abbrev row : List ℕ
row = 6 ∷ 4 ∷ 0 ∷ 0 ∷ 0 ∷ 0 ∷ 0 ∷ 0 ∷ 0 ∷ 0 ∷ []

module _ (κs : Lfts 2) (p q : Place) where
  abbrev Line : ℕ → ℕ → (Put → List ℕ → Type 0) → Type 0
  Line refusal index Wrong =
      Never line-kinds.ps line-kinds.r line-reads.Post κs (lent_mut p (replicate 32 0), (one refusal, (lent q row, (index, tt))))
      (λ x v. Wrong x v.0)

  -- a line that its run cuts told as whole, and a run left as it was
  pub cut_names_not_whole : Line 0 0 (λ x run. x.whole ≡ true)
  unfolding printed
  cut_names_not_whole x v wrong s = true≢false (sym wrong ∙ ap (λ (l : Put). l.whole) s.said)

  pub names_not_left_out : Line 0 0 (λ x run. get_or run 0 0 ≡ 0)
  unfolding printed
  names_not_left_out x v wrong s = let right : get_or v.0 0 0 ≡ 108 = ap (λ (l : List ℕ). get_or l 0 0) s.wrote in omega arith

  -- the log counted from 1, and its numbers in the other order
  pub log_not_from_1 : Line 0 1 (λ x run. get_or run 0 0 ≡ 49)
  unfolding printed
  log_not_from_1 x v wrong s = let right : get_or v.0 0 0 ≡ 48 = ap (λ (l : List ℕ). get_or l 0 0) s.wrote in omega arith

  pub row_not_turned : Line 0 1 (λ x run. get_or run 2 0 ≡ 52)
  unfolding printed
  row_not_turned x v wrong s = let right : get_or v.0 2 0 ≡ 54 = ap (λ (l : List ℕ). get_or l 2 0) s.wrote in omega arith

  -- the row of all together told as a log's, and without its newline
  pub all_not_a_log : Line 0 2 (λ x run. get_or run 0 0 ≡ 49)
  unfolding printed
  all_not_a_log x v wrong s = let right : get_or v.0 0 0 ≡ 97 = ap (λ (l : List ℕ). get_or l 0 0) s.wrote in omega arith

  pub line_ends : Line 0 2 (λ x run. x.octets ≡ 7)
  unfolding printed
  line_ends x v wrong s = let right : x.octets ≡ 8 = ap (λ (l : Put). l.octets) s.said in omega arith

  -- a refusal's number cut to one digit, and the names of a sheet that is refused
  pub refusal_not_cut : Line 18 0 (λ x run. x.octets ≡ 16)
  unfolding printed
  refusal_not_cut x v wrong s = let right : x.octets ≡ 17 = ap (λ (l : Put). l.octets) s.said in omega arith

  pub no_names_of_a_refused_sheet : Line 18 0 (λ x run. get_or run 0 0 ≡ 108)
  unfolding printed
  no_names_of_a_refused_sheet x v wrong s =
      let right : get_or v.0 0 0 ≡ 115 = ap (λ (l : List ℕ). get_or l 0 0) s.wrote in omega arith
