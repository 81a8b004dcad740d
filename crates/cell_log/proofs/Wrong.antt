-- Wrong answers, two or more for each public function: its contract rules them out. Stated over the contracts themselves.
-- Assumes nothing.
use mathlib.Core.Bool.{Bool, true, false, true≢false}
use mathlib.Core.List.{List, [], ◌∷◌, ◌++◌}
use mathlib.Core.Path.{◌≡◌, sym, ◌∙◌, ap}
use Prim.Native.Nat.{ℕ, ◌+◌}
use native.Mathlib.Omega.{arith}
use seplogic.Ra.Ura.{Ura}
use base.Logic.{SProp, ent, id⊢}
use contract.Lifetimes.{Lfts}
use contract.Monad.{Fun, fact}
use denote.Ref.{Bor}
use types.Logic.{Logic}
use lib.ListN.{length, get_or, take, replicate}
use prog.Memory.{Memory}
use prog.Routine.{Routine}
use Rattle.std.specs.Prelude.{Ok}
use Rattle.runs.specs.Refusals.{or_else}
use Rattle.runs.proofs.Wrong.{Never, Place, lent, lent_mut, ruled_out}
use Rattle.formats.proofs.Wrong as formats
use Rattle.cell_log.specs.Answers.{Number, Header, Record, Kept}
use Rattle.cell_log.specs.declared.reader.Reader.{Reader}
use Rattle.cell_log.specs.Numbers.{groups_at, is_cut, is_long, is_padded, value_at, number_at, groups_of}
use Rattle.cell_log.specs.Records.{header_refusal, header_of_numbers, header_of, record_at, place_after, cell_at}
use Rattle.cell_log.specs.Written.{number_refusal, header_refused_of, record_refusal}
use Rattle.cell_log.specs.Answered.{number_answered, header_answered, record_answered, kept_answered}
use Rattle.cell_log.proofs.One.{Answer, NewEnsures, RecordEnsures, CellEnsures, PastEnsures, ReadEnsures}
use Rattle.cell_log.proofs.read_number.Kinds as read-number-kinds
use Rattle.cell_log.proofs.read_number.Reads as read-number-reads
use Rattle.cell_log.proofs.read_header.Kinds as read-header-kinds
use Rattle.cell_log.proofs.read_header.Reads as read-header-reads
use Rattle.cell_log.proofs.header_numbers.Kinds as header-numbers-kinds
use Rattle.cell_log.proofs.header_numbers.Reads as header-numbers-reads
use Rattle.cell_log.proofs.read_record.Kinds as read-record-kinds
use Rattle.cell_log.proofs.read_record.Reads as read-record-reads
use Rattle.cell_log.proofs.read_indication.Kinds as read-indication-kinds
use Rattle.cell_log.proofs.read_indication.Reads as read-indication-reads
use Rattle.cell_log.proofs.next_place.Kinds as next-place-kinds
use Rattle.cell_log.proofs.next_place.Reads as next-place-reads
use Rattle.cell_log.proofs.read_cell.Kinds as read-cell-kinds
use Rattle.cell_log.proofs.read_cell.Reads as read-cell-reads
use Rattle.cell_log.proofs.keep.write_number.Kinds as write-number-kinds
use Rattle.cell_log.proofs.keep.write_number.Reads as write-number-reads
use Rattle.cell_log.proofs.keep.write_header.Kinds as write-header-kinds
use Rattle.cell_log.proofs.keep.write_header.Reads as write-header-reads
use Rattle.cell_log.proofs.keep.write_record.Kinds as write-record-kinds
use Rattle.cell_log.proofs.keep.write_record.Reads as write-record-reads

-- every definition on the way down to the numbers: of numbers, and of all else
unfoldable numbers_unfolded : Unit {0}
unfolding groups_at is_cut is_long is_padded value_at number_at groups_of number_refusal
numbers_unfolded = tt

unfoldable pub unfolded : Unit {0}
unfolding or_else formats.unfolded numbers_unfolded header_refusal header_of_numbers header_of record_at place_after cell_at header_refused_of record_refusal
unfolded = tt

-- a log's part with one record, its indication 1 and its cell of nines, and an octet behind it where none can begin
abbrev tape : List ℕ
tape = (1 ∷ replicate 48 9) ++ (2 ∷ [])

module _ (κs : Lfts 1) (p : Place) where
  abbrev ReadingNumber : List ℕ → (Number → Type 0) → Type 0
  ReadingNumber log Wrong = Never read-number-kinds.ps read-number-kinds.r read-number-reads.Post κs (lent p log, (0, tt)) (λ x v. Wrong (number_answered x))

  -- 80 00 taken for 0, though it is not the shortest form
  pub number_not_in_a_longer_form : ReadingNumber (0x80 ∷ 0 ∷ []) (λ x. x.refusal ≡ 0)
  unfolding unfolded
  number_not_in_a_longer_form x v wrong q = let right : (number_answered x).refusal ≡ 11 = ap (λ (n : Number). n.refusal) q in omega arith

  -- 80 01, which is 128, read with the high group first
  pub number_not_high_group_first : ReadingNumber (0x80 ∷ 1 ∷ []) (λ x. x.value ≡ 1)
  unfolding unfolded
  number_not_high_group_first x v wrong q = let right : (number_answered x).value ≡ 128 = ap (λ (n : Number). n.value) q in omega arith

  abbrev ReadingHeader : List ℕ → (Header → Type 0) → Type 0
  ReadingHeader log Wrong = Never read-header-kinds.ps read-header-kinds.r read-header-reads.Post κs (lent p log, tt) (λ x v. Wrong (header_answered x))

  -- a header that nothing is wrong with refused, by whatever number
  pub header_not_always_refused : ReadingHeader (0x56 ∷ 2 ∷ 0 ∷ []) (λ x. x.refusal ≡ 0 → ⊥)
  unfolding unfolded
  header_not_always_refused x v wrong q = wrong (ap (λ (h : Header). h.refusal) q)

  -- the order read before C
  pub header_not_order_first : ReadingHeader (0x56 ∷ 2 ∷ 1 ∷ []) (λ x. x.channels ≡ 1)
  unfolding unfolded
  header_not_order_first x v wrong q = let right : (header_answered x).channels ≡ 2 = ap (λ (h : Header). h.channels) q in omega arith

  -- a header refused 2 with its format told all the same
  pub refused_header_not_told : ReadingHeader (0x56 ∷ 0 ∷ 0 ∷ []) (λ x. x.format ≡ 0x56)
  unfolding unfolded
  refused_header_not_told x v wrong q = let right : (header_answered x).format ≡ 0 = ap (λ (h : Header). h.format) q in omega arith

  abbrev ReadingNumbers : List ℕ → (Header → Type 0) → Type 0
  ReadingNumbers log Wrong =
      Never header-numbers-kinds.ps header-numbers-kinds.r header-numbers-reads.Post κs (lent p log, tt) (λ x v. Wrong (header_answered (Ok x)))

  -- the order told for C, and the numbers of a refused header told all the same
  pub numbers_not_order_first : ReadingNumbers (0x56 ∷ 2 ∷ 1 ∷ []) (λ x. x.channels ≡ 1)
  unfolding unfolded
  numbers_not_order_first x v wrong q = let right : x.channels ≡ 2 = ap (λ (h : Header). h.channels) q in omega arith

  pub refused_numbers_not_told : ReadingNumbers (0x56 ∷ 0 ∷ 0 ∷ []) (λ x. x.format ≡ 0x56)
  unfolding unfolded
  refused_numbers_not_told x v wrong q = let right : x.format ≡ 0 = ap (λ (h : Header). h.format) q in omega arith

  abbrev ReadingRecord : ℕ → (Record → Type 0) → Type 0
  ReadingRecord place Wrong = Never read-record-kinds.ps read-record-kinds.r read-record-reads.Post κs (lent p tape, (place, tt)) (λ x v. Wrong (record_answered place x))

  -- the end answered at a record
  pub record_not_the_end_early : ReadingRecord 0 (λ x. x.what ≡ 0)
  unfolding unfolded
  record_not_the_end_early x v wrong q = let right : (record_answered 0 x).what ≡ 1 = ap (λ (r : Record). r.what) q in omega arith

  -- the cell taken to start at its indication
  pub record_not_at_its_indication : ReadingRecord 0 (λ x. x.start ≡ 0)
  unfolding unfolded
  record_not_at_its_indication x v wrong q = let right : (record_answered 0 x).start ≡ 1 = ap (λ (r : Record). r.start) q in omega arith

  -- the end told as a record that is cut, and a place past it too
  pub end_not_refused : ReadingRecord 50 (λ x. x.refusal ≡ 12)
  unfolding unfolded
  end_not_refused x v wrong q = let right : (record_answered 50 x).refusal ≡ 0 = ap (λ (r : Record). r.refusal) q in omega arith

  pub past_the_end_not_refused : ReadingRecord 4000 (λ x. x.refusal ≡ 12)
  unfolding unfolded
  past_the_end_not_refused x v wrong q = let right : (record_answered 4000 x).refusal ≡ 0 = ap (λ (r : Record). r.refusal) q in omega arith

  abbrev ReadingIndication : ℕ → (Bool → Type 0) → Type 0
  ReadingIndication place Wrong =
      Never read-indication-kinds.ps read-indication-kinds.r read-indication-reads.Post κs (lent p tape, (place, tt)) (λ x v. Wrong x)

  -- an indication told as no, and one told as yes where no record can be read
  pub indication_not_always_no : ReadingIndication 0 (λ x. x ≡ false)
  unfolding unfolded
  indication_not_always_no x v wrong q = true≢false (sym q ∙ wrong)

  pub indication_not_of_any_octet : ReadingIndication 49 (λ x. x ≡ true)
  unfolding unfolded
  indication_not_of_any_octet x v wrong q = true≢false (sym wrong ∙ q)

  abbrev GoingOn : ℕ → (ℕ → Type 0) → Type 0
  GoingOn place Wrong = Never next-place-kinds.ps next-place-kinds.r next-place-reads.Post κs (lent p tape, (place, tt)) (λ x v. Wrong x)

  -- the same record for ever
  pub place_not_standing_still : GoingOn 0 (λ x. x ≡ 0)
  unfolding unfolded
  place_not_standing_still x v wrong q = omega arith

  -- back to the log's start from where no record can be read
  pub place_not_lost : GoingOn 49 (λ x. x ≡ 0)
  unfolding unfolded
  place_not_lost x v wrong q = omega arith

  abbrev ReadingCell : ℕ → (Bor (List ℕ) → Type 0) → Type 0
  ReadingCell place Wrong = Never read-cell-kinds.ps read-cell-kinds.r read-cell-reads.Post κs (lent p tape, (place, tt)) (λ x v. Wrong x)

  -- 48 octets from the indication on
  pub cell_not_with_its_indication : ReadingCell 0 (λ x. x.now ≡ take 48 tape)
  unfolding unfolded
  cell_not_with_its_indication x v wrong q =
      let first : ◌≡◌ {A = ℕ} 1 9 = ap (λ (l : List ℕ). get_or l 0 0) (sym wrong ∙ q.0) in omega arith

  -- the right octets at another place in memory
  pub cell_not_elsewhere : ReadingCell 0 (λ x. x.ref_ptr ≡ p.ptr)
  unfolding unfolded
  cell_not_elsewhere x v wrong q = let on : p.ptr.1 ≡ 1 + p.ptr.1 = ap (λ (t : ℕ × ℕ). t.1) (sym wrong ∙ q.1) in omega arith

  -- a part handed back where no record can be read
  pub refused_cell_not_given : ReadingCell 49 (λ x. length x.now ≡ 1)
  unfolding unfolded
  refused_cell_not_given x v wrong q = let right : length x.now ≡ 0 = ap length q.0 in omega arith

  -- a number written at the start of a run of three zeros
  abbrev WritingNumber : ℕ → (Kept → List ℕ → Type 0) → Type 0
  WritingNumber value Wrong =
      Never write-number-kinds.ps write-number-kinds.r write-number-reads.Post κs (lent_mut p (replicate 3 0), (0, (value, tt))) (λ x v. Wrong (kept_answered x) v.0)

  -- 128 with the high group first
  pub written_not_high_group_first : WritingNumber 128 (λ x after. after ≡ 1 ∷ 128 ∷ 0 ∷ [])
  unfolding unfolded
  written_not_high_group_first x v wrong q =
      let first : ◌≡◌ {A = ℕ} 1 128 = ap (λ (l : List ℕ). get_or l 0 0) (sym wrong ∙ q.left) in omega arith

  -- three groups where one is enough
  pub written_not_in_three_groups : WritingNumber 5 (λ x after. x.next ≡ 3)
  unfolding unfolded
  written_not_in_three_groups x v wrong q = let right : (kept_answered x).next ≡ 1 = ap (λ (k : Kept). k.next) q.answered in omega arith

  -- a number over three groups cut
  pub written_not_cut : WritingNumber 2097152 (λ x after. x.refusal ≡ 0)
  unfolding unfolded
  written_not_cut x v wrong q = let right : (kept_answered x).refusal ≡ 11 = ap (λ (k : Kept). k.refusal) q.answered in omega arith

  -- a header of 56 hex with C channels in order 1, at the start of a run of three sevens
  abbrev WritingHeader : ℕ → (Kept → List ℕ → Type 0) → Type 0
  WritingHeader channels Wrong =
      Never write-header-kinds.ps write-header-kinds.r write-header-reads.Post κs
      (lent_mut p (replicate 3 7), (0x56, (channels, (1, tt)))) (λ x v. Wrong (kept_answered x) v.0)

  -- nothing written
  pub header_not_left_out : WritingHeader 2 (λ x after. after ≡ replicate 3 7)
  unfolding unfolded
  header_not_left_out x v wrong q =
      let first : ◌≡◌ {A = ℕ} 7 0x56 = ap (λ (l : List ℕ). get_or l 0 0) (sym wrong ∙ q.left) in omega arith

  -- a header refused 2 written
  pub refused_header_not_written : WritingHeader 13 (λ x after. get_or after 0 0 ≡ 0x56)
  unfolding unfolded
  refused_header_not_written x v wrong q =
      let right : get_or v.0 0 0 ≡ 7 = ap (λ (l : List ℕ). get_or l 0 0) q.left in omega arith

  -- the order written before C
  pub header_not_written_order_first : WritingHeader 2 (λ x after. get_or after 1 0 ≡ 1)
  unfolding unfolded
  header_not_written_order_first x v wrong q =
      let right : get_or v.0 1 0 ≡ 2 = ap (λ (l : List ℕ). get_or l 1 0) q.left in omega arith

module _ (κs : Lfts 2) (p c : Place) where
  -- a record with indication 1 at the start of so many zeros
  abbrev WritingRecord : ℕ → (Kept → List ℕ → Type 0) → Type 0
  WritingRecord room Wrong =
      Never write-record-kinds.ps write-record-kinds.r write-record-reads.Post κs
      (lent_mut p (replicate room 0), (0, (true, (lent c (replicate 48 9), tt)))) (λ x v. Wrong (kept_answered x) v.0)

  -- the indication left out
  pub record_not_without_its_indication : WritingRecord 49 (λ x after. get_or after 0 0 ≡ 0)
  unfolding unfolded
  record_not_without_its_indication x v wrong q =
      let right : get_or v.0 0 0 ≡ 1 = ap (λ (l : List ℕ). get_or l 0 0) q.left in omega arith

  -- a record that the log's end cuts written as far as it goes
  pub cut_record_not_written : WritingRecord 48 (λ x after. get_or after 1 0 ≡ 9)
  unfolding unfolded
  cut_record_not_written x v wrong q =
      let right : get_or v.0 1 0 ≡ 0 = ap (λ (l : List ℕ). get_or l 1 0) q.left in omega arith

  -- and told as written
  pub cut_record_not_kept : WritingRecord 48 (λ x after. x.refusal ≡ 0)
  unfolding unfolded
  cut_record_not_kept x v wrong q = let right : (kept_answered x).refusal ≡ 12 = ap (λ (k : Kept). k.refusal) q.answered in omega arith

-- the reader over a lent log: stated over the clauses, as in One.antt
module _ {M : Type 1} {𝓤 : Ura M} (𝓛 : Logic 𝓤) (mem : Memory → SProp 𝓤) (run : Routine → Fun 𝓤) (κs : Lfts 1) (p : Place) where
  abbrev at : ℕ → Reader
  at place = record { log = lent p tape; place = place }

  -- a new reader at the log's start, wherever it was asked for, or over another log
  pub new_not_at_the_start : (x : Reader) → x.place ≡ 0 → ent 𝓤 (NewEnsures 𝓛 mem run κs (lent p tape, (49, tt)) x) (fact 𝓤 ⊥)
  new_not_at_the_start x wrong = ruled_out 𝓤 _ (id⊢ 𝓤 _) (λ q. let right : x.place ≡ 49 = q.1 in omega arith)

  pub new_not_of_another_log : (x : Reader) → x.log.now ≡ [] → ent 𝓤 (NewEnsures 𝓛 mem run κs (lent p tape, (49, tt)) x) (fact 𝓤 ⊥)
  new_not_of_another_log x wrong =
      ruled_out 𝓤 _ (id⊢ 𝓤 _) (λ q. let lengths : ◌≡◌ {A = ℕ} 0 50 = ap length (sym wrong ∙ ap (λ x. x.now) q.0) in omega arith)

  -- the end answered at a record, and the record before told again at an octet where none can begin
  pub record_here_not_the_end_early : (x : Answer) → (record_answered 0 x).what ≡ 0 → ent 𝓤 (RecordEnsures 𝓛 mem run κs (at 0, tt) x) (fact 𝓤 ⊥)
  unfolding unfolded
  record_here_not_the_end_early x wrong = ruled_out 𝓤 _ (id⊢ 𝓤 _) (λ q. let right : (record_answered 0 x).what ≡ 1 = ap (λ (r : Record). r.what) q in omega arith)

  pub record_here_not_always_the_first : (x : Answer) → (record_answered 49 x).what ≡ 1 → ent 𝓤 (RecordEnsures 𝓛 mem run κs (at 49, tt) x) (fact 𝓤 ⊥)
  unfolding unfolded
  record_here_not_always_the_first x wrong = ruled_out 𝓤 _ (id⊢ 𝓤 _) (λ q. let right : (record_answered 49 x).what ≡ 0 = ap (λ (r : Record). r.what) q in omega arith)

  -- 48 octets from the indication on, and the right ones at another place in memory
  pub reader's_cell_not_with_its_indication : (x : Bor (List ℕ)) → x.now ≡ take 48 tape → ent 𝓤 (CellEnsures 𝓛 mem run κs (at 0, tt) x) (fact 𝓤 ⊥)
  unfolding unfolded
  reader's_cell_not_with_its_indication x wrong =
      ruled_out 𝓤 _ (id⊢ 𝓤 _) (λ q. let first : ◌≡◌ {A = ℕ} 1 9 = ap (λ (l : List ℕ). get_or l 0 0) (sym wrong ∙ q.0) in omega arith)

  pub reader's_cell_not_elsewhere : (x : Bor (List ℕ)) → x.ref_ptr ≡ p.ptr → ent 𝓤 (CellEnsures 𝓛 mem run κs (at 0, tt) x) (fact 𝓤 ⊥)
  unfolding unfolded
  reader's_cell_not_elsewhere x wrong =
      ruled_out 𝓤 _ (id⊢ 𝓤 _) (λ q. let on : p.ptr.1 ≡ 1 + p.ptr.1 = ap (λ (t : ℕ × ℕ). t.1) (sym wrong ∙ q.1) in omega arith)

  -- the same record for ever, and back to the log's start from where no record can be read
  pub past_record_not_standing_still : (x : Reader) → x.place ≡ 0 → ent 𝓤 (PastEnsures 𝓛 mem run κs (at 0, tt) x) (fact 𝓤 ⊥)
  unfolding unfolded
  past_record_not_standing_still x wrong = ruled_out 𝓤 _ (id⊢ 𝓤 _) (λ q. let right : x.place ≡ 49 = q.1 in omega arith)

  pub past_record_not_lost : (x : Reader) → x.place ≡ 0 → ent 𝓤 (PastEnsures 𝓛 mem run κs (at 49, tt) x) (fact 𝓤 ⊥)
  unfolding unfolded
  past_record_not_lost x wrong = ruled_out 𝓤 _ (id⊢ 𝓤 _) (λ q. let right : x.place ≡ 49 = q.1 in omega arith)

  -- the end answered at a record, and its indication told as no
  pub read_not_the_end_early : (x : Answer) → (record_answered 0 x).what ≡ 0 → ent 𝓤 (ReadEnsures 𝓛 mem run κs (lent p tape, (0, tt)) x) (fact 𝓤 ⊥)
  unfolding unfolded
  read_not_the_end_early x wrong = ruled_out 𝓤 _ (id⊢ 𝓤 _) (λ q. let right : (record_answered 0 x).what ≡ 1 = ap (λ (r : Record). r.what) q in omega arith)

  pub read_not_always_no : (x : Answer) → (record_answered 0 x).indication ≡ false → ent 𝓤 (ReadEnsures 𝓛 mem run κs (lent p tape, (0, tt)) x) (fact 𝓤 ⊥)
  unfolding unfolded
  read_not_always_no x wrong = ruled_out 𝓤 _ (id⊢ 𝓤 _) (λ q. true≢false (sym (ap (λ (r : Record). r.indication) q) ∙ wrong))
