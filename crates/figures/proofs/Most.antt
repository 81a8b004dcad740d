-- 19 over the definition: one log of so many silent cells in 02 hex that more than 4,294,967,295 samples are marked 0.
-- Assumes nothing.
use mathlib.Core.Bool.{Bool, true, false}
use mathlib.Core.List.{List, [], ◌∷◌, ◌++◌, append-nil}
use mathlib.Core.Path.{◌≡◌, refl, ◌∙◌, ap, ap₂}
use Prim.Native.Nat.{ℕ, zero, suc, ◌+◌, ◌*◌, ◌≤◌}
use native.Mathlib.Nat.{mul-suc}
use native.Mathlib.Omega.{arith}
use borrow.Author.Tests.{eq-eqb, le-ltb}
use lib.Dec.{eqb}
use lib.ListN.{length, take, replicate}
use lib.Seq.{take_all}
use Rattle.runs.proofs.Laws.{split}
use Rattle.cell_log.specs.Records.{header_of}
use Rattle.cell_log.proofs.Wrong as log
use Rattle.receiver.specs.declared.Receiver.{Receiver}
use Rattle.receiver.specs.Receiver.{receive_refusal}
use Rattle.receiver.proofs.Wrong as receiver
use Rattle.reading.specs.Heard.{Heard, heard_by, hear, onward, heard_from, marked_with}
use Rattle.reading.specs.Reading.{Reading, fresh_of, reading_of}
use Rattle.reading.specs.Records.{Whole, Framed, octets_in}
use Rattle.reading.specs.Totals.{total_of, count_of, Each}
use Rattle.reading.proofs.Computed as reading
use Rattle.reading.proofs.Reading.{wrote_reading}
use Rattle.figures.specs.Figures.{counts_of, too_many_of}
use Rattle.figures.specs.Sheets.{logs_of, heard_over, heard_in, totals_of, sum_of, unlike, sheet_refusal}
use Rattle.figures.proofs.Laws.{few}

-- a receiver of one channel in 02 hex, 48 samples a cell, that has placed so many cells
abbrev placed : Bool → ℕ → Receiver
placed started count = record { format = 2; channels = 1; order = 0; started = started; last = 0; count = count }

abbrev silent : Whole
silent = record { indication = false; cell = replicate 48 0 }

abbrev marked_0 : Heard → ℕ
marked_0 h = count_of (λ m. eqb m 0) h.marks

-- one cell more
module _ (count : ℕ) (room : count + 1 ≤ 4294967295) where
  taken : receive_refusal (placed true count) (replicate 48 0) false 720 720 720 ≡ 0
  unfolding receiver.unfolded
  taken = rw (le-ltb 4294967295 (count + 1) room) refl

  next : onward (hear (placed true count) silent) ≡ placed true (count + 1)
  unfolding receiver.unfolded reading.unfolded
  next = rw (le-ltb 4294967295 (count + 1) room) refl

  marks : marked_0 (hear (placed true count) silent) ≡ 48
  unfolding receiver.unfolded reading.unfolded total_of
  marks = rw (le-ltb 4294967295 (count + 1) room) refl

marks_all : (n count : ℕ) → count + n ≤ 4294967295 → marked_with 0 (heard_from (placed true count) (replicate n silent)) ≡ 48 * n
unfolding total_of heard_by
marks_all zero count room = refl
marks_all (suc n) count room =
    let one : count + 1 ≤ 4294967295 = omega arith in
    let rest : marked_with 0 (heard_from (onward (hear (placed true count) silent)) (replicate n silent)) ≡ 48 * n =
    ap (λ (st : Receiver). marked_with 0 (heard_from st (replicate n silent))) (next count one)
    ∙ marks_all n (count + 1) (omega arith) in
    ap₂ (λ (a b : ℕ). a + b) (marks count one) rest ∙ omega (arith, mul-suc 48 n)

-- the first one starts the receiver
first_next : onward (hear (placed false 0) silent) ≡ placed true 1
unfolding receiver.unfolded reading.unfolded
first_next = refl

first_marks : marked_0 (hear (placed false 0) silent) ≡ 48
unfolding receiver.unfolded reading.unfolded total_of
first_marks = refl

marks_from : (n : ℕ) → suc n ≤ 4294967295 → marked_with 0 (heard_from (placed false 0) (replicate (suc n) silent)) ≡ 48 * suc n
unfolding total_of heard_by
marks_from n room =
    let rest : marked_with 0 (heard_from (onward (hear (placed false 0) silent)) (replicate n silent)) ≡ 48 * n =
    ap (λ (st : Receiver). marked_with 0 (heard_from st (replicate n silent))) first_next ∙ marks_all n 1 (omega arith) in
    ap₂ (λ (a b : ℕ). a + b) first_marks rest ∙ omega (arith, mul-suc 48 n)

abbrev header : List ℕ
header = 2 ∷ 1 ∷ 0 ∷ []

header_taken : (header_of header).refusal ≡ 0
unfolding log.unfolded reading.unfolded
header_taken = refl

header_opens : fresh_of (header_of header) ≡ placed false 0
unfolding log.unfolded reading.unfolded receiver.unfolded
header_opens = refl

framed : (n : ℕ) → Each Framed (replicate n silent)
unfolding Each
framed zero = tt
framed (suc n) = (refl, framed n)

-- the log of so many silent cells
abbrev pub silence : ℕ → List ℕ
silence n = take 3 header ++ octets_in (replicate n silent)

heard_silence : (n : ℕ) → (reading_of (silence n)).heard ≡ heard_from (placed false 0) (replicate n silent)
heard_silence n =
    ap (λ (r : Reading). r.heard) (wrote_reading header header_taken (replicate n silent) (framed n))
    ∙ ap (λ (st : Receiver). heard_from st (replicate n silent)) header_opens

module _ (n : ℕ) (many : 89478485 ≤ n) (room : suc n ≤ 4294967295) where
  abbrev octets : List ℕ
  octets = silence (suc n)

  logs : logs_of octets (length octets ∷ []) ≡ octets ∷ []
  unfolding logs_of
  logs = ap (λ (l : List ℕ). l ∷ []) (take_all (length octets) octets (omega arith))

  total : (totals_of (octets ∷ [])).marked_0 ≡ 48 * suc n
  unfolding counts_of heard_over
  total =
      ap (marked_with 0) (append-nil (heard_in octets) ∙ heard_silence (suc n))
      ∙ marks_from n room

  too_many : too_many_of (totals_of (octets ∷ [])) ≡ true
  too_many =
      split (too_many_of (totals_of (octets ∷ [])))
      (λ so. so)
      (λ not_so. absurd (omega (arith, total, many, (few (totals_of (octets ∷ [])) not_so).marked0)))

  -- one lent log, one row, and 19
  pub refused_19 : sheet_refusal octets (length octets ∷ []) 10 ≡ 19
  unfolding sheet_refusal unlike total_of
  refused_19 =
      let sum : sum_of (length octets ∷ []) ≡ length octets = omega arith in
      rw (eq-eqb (sum_of (length octets ∷ [])) (length octets) sum, logs, too_many) refl
