-- Wrong answers to the public functions: the contracts rule each of them out. Stated over the contracts themselves.
-- Assumes nothing.
use mathlib.Core.List.{List, [], ◌∷◌, ◌++◌}
use mathlib.Core.Path.{◌≡◌, ap}
use Prim.Native.Nat.{ℕ}
use native.Mathlib.Omega.{arith}
use contract.Lifetimes.{Lfts}
use lib.ListN.{get_or, replicate}
use Rattle.runs.proofs.Wrong.{Never, Place, lent, lent_mut}
use Rattle.cell_log.proofs.Wrong as log
use Rattle.receiver.proofs.Wrong as receiver
use Rattle.reading.proofs.Computed as reading
use Rattle.reading.specs.Totals.{total_of}
use Rattle.pieces.specs.Steps.{steps_from, stood_of}
use Rattle.pieces.proofs.Wrong as pieces
use Rattle.figures.specs.declared.Tally.{Tally}
use Rattle.figures.specs.declared.Counts.{Counts}
use Rattle.figures.specs.Adding.{rows_with, closed_of}
use Rattle.figures.specs.Code.{cap_of, capped, held_row}
use Rattle.figures.specs.Figures.{counts_of, per_million, row_of, too_many_of}
use Rattle.figures.specs.Sheets.{Answer, logs_of, heard_over, rows_of, unlike, sheet_refusal, sheet_of}
use Rattle.figures.specs.Taking.{part_noted, noted_by, start_tally}
use Rattle.figures.specs.Answered.{answered}
use Rattle.figures.proofs.add.Kinds as add-kinds
use Rattle.figures.proofs.add.Reads as add_reads
use Rattle.figures.proofs.closed.Kinds as closed-kinds
use Rattle.figures.proofs.closed.Reads as closed-reads
use Rattle.figures.proofs.sheet.Kinds as sheet-kinds
use Rattle.figures.proofs.sheet.Reads as sheet-reads
use Rattle.figures.proofs.start.Kinds as start-kinds
use Rattle.figures.proofs.start.Reads as start-reads
use Rattle.figures.proofs.take.Kinds as take-kinds
use Rattle.figures.proofs.take.Reads as take-reads

-- every definition on the way down to the numbers
unfoldable pub unfolded : Unit {0}
unfolding log.unfolded receiver.unfolded reading.unfolded total_of counts_of per_million row_of too_many_of logs_of heard_over rows_of
    unlike sheet_refusal
    sheet_of
unfolded = tt

taking_unfolded : Unit {0}
unfolding unfolded pieces.unfolded pieces.steps_unfolded steps_from stood_of cap_of capped part_noted noted_by
taking_unfolded = tt

adding_unfolded : Unit {0}
unfolding cap_of capped held_row per_million row_of too_many_of rows_with closed_of
adding_unfolded = tt

-- so many cells sound, and nothing else
abbrev sounds : ℕ → Counts
sounds n =
    record {
      sound = n;
      missing = 0;
      refused_8 = 0;
      refused_9 = 0;
      refused_15 = 0;
      refused_20 = 0;
      marked_0 = 0;
      marked_1 = 0;
      marked_2 = 0;
    }

-- the paper's zero cell, and its log: 56 02 00, then twice 00 and that cell
abbrev slots : ℕ → List ℕ → List ℕ
slots low rest = 0 ∷ 0 ∷ 0 ∷ low ∷ 0 ∷ 0 ∷ 0 ∷ low ∷ 0 ∷ 0 ∷ 0 ∷ low ∷ 0 ∷ 0 ∷ 0 ∷ low ∷ rest

abbrev pub once : List ℕ
once = 0x56 ∷ 2 ∷ 0 ∷ 0 ∷ slots 7 (slots 15 (slots 7 []))

abbrev refused_header : List ℕ
refused_header = 0x56 ∷ 13 ∷ 0 ∷ 0 ∷ slots 7 (slots 15 (slots 7 []))

abbrev pub twice : List ℕ
twice = once ++ (0 ∷ slots 7 (slots 15 (slots 7 [])))

module _ (κs : Lfts 3) (p q r : Place) where
  -- rows lent as so many nines
  abbrev Sheet : List ℕ → List ℕ → ℕ → (Answer → List ℕ → Type 0) → Type 0
  Sheet octets lengths rows Wrong =
      Never sheet-kinds.ps sheet-kinds.r sheet-reads.Post κs (lent p octets, (lent q lengths, (lent_mut r (replicate rows 9), tt)))
      (λ x v. Wrong (answered x) v.1.1.0)

  -- the repeat told as sound
  pub repeat_not_sound : Sheet twice (101 ∷ []) 10 (λ x rows. get_or rows 0 0 ≡ 2)
  unfolding unfolded
  repeat_not_sound x v wrong s = let right : get_or v.1.1.0 0 0 ≡ 1 = ap (λ (l : List ℕ). get_or l 0 0) s.rows_after in
      omega arith

  -- a log that is cut in its second record counted by what the cut record would be
  pub cut_record_not_refused : Sheet (once ++ (0 ∷ [])) (53 ∷ []) 10 (λ x rows. get_or x.totals 3 0 ≡ 1)
  unfolding unfolded
  cut_record_not_refused x v wrong s =
      let right : get_or (answered x).totals 3 0 ≡ 0 = ap (λ (a : Answer). get_or a.totals 3 0) s.answered in omega arith

  -- a whole cell counted behind a header that is refused: 56 hex has no 13 channels
  pub refused_header_not_counted : Sheet refused_header (52 ∷ []) 10 (λ x rows. get_or rows 0 0 ≡ 1)
  unfolding unfolded
  refused_header_not_counted x v wrong s = let right : get_or v.1.1.0 0 0 ≡ 0 = ap (λ (l : List ℕ). get_or l 0 0)
      s.rows_after in omega arith

  -- a refused sheet that writes its row
  pub refused_rows_not_written : Sheet twice (100 ∷ []) 10 (λ x rows. get_or rows 0 0 ≡ 1)
  unfolding unfolded
  refused_rows_not_written x v wrong s = let right : get_or v.1.1.0 0 0 ≡ 9 = ap (λ (l : List ℕ). get_or l 0 0)
      s.rows_after in omega arith

  -- lengths that add up only after wrapping taken
  pub wrapped_lengths_not_taken : Sheet [] (18446744073709551615 ∷ 1 ∷ []) 20 (λ x rows. x.refusal ≡ 0)
  unfolding unfolded
  wrapped_lengths_not_taken x v wrong s = let right : (answered x).refusal ≡ 5 = ap (λ (a : Answer). a.refusal) s.answered in omega
      arith

module _ (κs : Lfts 2) (p q : Place) where
  abbrev Taken : List ℕ → (Tally → List ℕ → Type 0) → Type 0
  Taken piece Wrong =
      Never take-kinds.ps take-kinds.r take-reads.Post κs (start_tally, (lent_mut p (replicate 49 0), (lent q piece, tt)))
      (λ x v. Wrong x v.1.0)

  -- samples of a cell that is taken left out
  pub marks_not_left_out : Taken once (λ x held. x.noted.counts.marked_0 ≡ 0)
  unfolding taking_unfolded
  marks_not_left_out x v wrong s =
      let right : x.noted.counts.marked_0 ≡ 12 = ap (λ (t : Tally). t.noted.counts.marked_0) s.goes_on in omega arith

  -- the octets of a record that isn't whole yet forgotten
  pub octets_not_forgotten : Taken (0x56 ∷ 2 ∷ 0 ∷ 0 ∷ 7 ∷ []) (λ x held. x.standing.count ≡ 0)
  unfolding taking_unfolded
  octets_not_forgotten x v wrong s =
      let right : x.standing.count ≡ 2 = ap (λ (t : Tally). t.standing.count) s.goes_on in omega arith

module _ (κs : Lfts 0) where
  abbrev Started : (Tally → Type 0) → Type 0
  Started Wrong = Never start-kinds.ps start-kinds.r start-reads.Post κs tt (λ x v. Wrong x)

  -- a limit on the log's length, and something counted
  pub start_has_no_limit : Started (λ x. x.standing.left ≡ 4294967295)
  start_has_no_limit x v wrong s =
      let right : x.standing.left ≡ 18446744073709551615 = ap (λ (t : Tally). t.standing.left) s in omega arith

  pub start_counts_nothing : Started (λ x. x.noted.counts.sound ≡ 1)
  start_counts_nothing x v wrong s = let right : x.noted.counts.sound ≡ 0 = ap (λ (t : Tally). t.noted.counts.sound)
      s in omega arith

  abbrev Closed : Counts → (Answer → Type 0) → Type 0
  Closed totals Wrong = Never closed-kinds.ps closed-kinds.r closed-reads.Post κs (totals, tt) (λ x v. Wrong (answered x))

  -- the first total that is too many taken, and the last that isn't refused
  pub too_many_not_taken : Closed (sounds 4294967296) (λ x. x.refusal ≡ 0)
  unfolding adding_unfolded
  too_many_not_taken x v wrong s = let right : (answered x).refusal ≡ 19 = ap (λ (a : Answer). a.refusal) s in omega arith

  pub most_not_refused : Closed (sounds 4294967295) (λ x. x.refusal ≡ 19)
  unfolding adding_unfolded
  most_not_refused x v wrong s = let right : (answered x).refusal ≡ 0 = ap (λ (a : Answer). a.refusal) s in omega arith

module _ (κs : Lfts 1) (p : Place) where
  abbrev Added : (Counts → List ℕ → Type 0) → Type 0
  Added Wrong =
      Never add-kinds.ps add-kinds.r add_reads.Post κs (lent_mut p (replicate 20 9), (1, (sounds 3, (sounds 4, tt))))
      (λ x v. Wrong x v.0)

  -- a log that isn't added to the totals, and a row in the first log's place
  pub log_not_left_out : Added (λ x rows. x.sound ≡ 3)
  unfolding adding_unfolded
  log_not_left_out x v wrong s = let right : x.sound ≡ 7 = ap (λ (c : Counts). c.sound) s.totals_are in omega arith

  pub row_not_first : Added (λ x rows. get_or rows 0 0 ≡ 4)
  unfolding adding_unfolded
  row_not_first x v wrong s = let right : get_or v.0 0 0 ≡ 9 = ap (λ (l : List ℕ). get_or l 0 0) s.rows_after in omega arith
