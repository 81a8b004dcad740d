-- Wrong answers of the calls that write or list a log: their contracts rule them out. Stated over the contracts themselves.
-- Assumes nothing.
use mathlib.Core.Bool.{true}
use mathlib.Core.List.{List, [], ◌∷◌}
use mathlib.Core.Path.{◌≡◌, sym, ◌∙◌, ap}
use Prim.Native.Nat.{ℕ}
use native.Mathlib.Omega.{arith}
use contract.Lifetimes.{Lfts}
use lib.ListN.{get_or, replicate}
use Rattle.runs.proofs.Wrong.{Never, Place, lent, lent_mut}
use Rattle.cell_log.specs.Answers.{Kept}
use Rattle.cell_log.proofs.Wrong as log
use Rattle.listing.specs.List.{list_to}
use Rattle.text.specs.Text.{digits_of}
use Rattle.rimesatchel.proofs.kept.rime_log_put_header.Kinds as header-kinds
use Rattle.rimesatchel.proofs.kept.rime_log_put_header.Reads as header-reads
use Rattle.rimesatchel.proofs.kept.rime_log_put_record.Kinds as record-kinds
use Rattle.rimesatchel.proofs.kept.rime_log_put_record.Reads as record-reads
use Rattle.rimesatchel.proofs.kept.rime_log_list.Kinds as list-kinds
use Rattle.rimesatchel.proofs.kept.rime_log_list.Reads as list-reads

module _ (κs : Lfts 2) (l n : Place) where
  -- a header of 56 hex with C channels in order 1, into a run of three sevens; the place is lent as 9
  abbrev PuttingHeader : ℕ → (ℕ → List ℕ → ℕ → Type 0) → Type 0
  PuttingHeader channels Wrong =
      Never header-kinds.ps header-kinds.r header-reads.Post κs (lent_mut l (replicate 3 7), (0x56, (channels, (1, (lent_mut n 9, tt)))))
      (λ x v. Wrong x v.0 v.1.1.1.1.0)

  -- nothing written
  pub header_not_left_out : PuttingHeader 2 (λ x after next. after ≡ replicate 3 7)
  unfolding log.unfolded
  header_not_left_out x v wrong q =
      let first : ◌≡◌ {A = ℕ} 7 0x56 = ap (λ (l : List ℕ). get_or l 0 0) (sym wrong ∙ q.left) in omega arith

  -- the place after it told as the log's start
  pub header_not_told_as_none : PuttingHeader 2 (λ x after next. next ≡ 0)
  unfolding log.unfolded
  header_not_told_as_none x v wrong q =
      let right : v.1.1.1.1.0 ≡ 3 = ap (λ (k : Kept). k.next) q.answered in omega arith

  -- the place left as it was lent_mut at a header that is refused
  pub refused_place_not_left : PuttingHeader 13 (λ x after next. next ≡ 9)
  unfolding log.unfolded
  refused_place_not_left x v wrong q =
      let right : v.1.1.1.1.0 ≡ 0 = ap (λ (k : Kept). k.next) q.answered in omega arith

  -- a header of 13 channels taken
  pub thirteen_channels_not_put : PuttingHeader 13 (λ x after next. x ≡ 0)
  unfolding log.unfolded
  thirteen_channels_not_put x v wrong q = let right : x ≡ 2 = ap (λ (k : Kept). k.refusal) q.answered in omega arith

module _ (κs : Lfts 3) (l c n : Place) where
  -- a record with indication 1 and a cell of nines, at the start of so many zeros; the place is lent as 9
  abbrev PuttingRecord : ℕ → (ℕ → List ℕ → ℕ → Type 0) → Type 0
  PuttingRecord room Wrong =
      Never record-kinds.ps record-kinds.r record-reads.Post κs
      (lent_mut l (replicate room 0), (0, (lent c (replicate 48 9), (true, (lent_mut n 9, tt)))))
      (λ x v. Wrong x v.0 v.1.1.1.1.0)

  -- the indication left out
  pub record_not_without_its_indication : PuttingRecord 49 (λ x after next. get_or after 0 0 ≡ 0)
  unfolding log.unfolded
  record_not_without_its_indication x v wrong q =
      let right : get_or v.0 0 0 ≡ 1 = ap (λ (l : List ℕ). get_or l 0 0) q.left in omega arith

  -- the place after the cell's first octet told as the place after the record
  pub next_not_at_its_cell : PuttingRecord 49 (λ x after next. next ≡ 1)
  unfolding log.unfolded
  next_not_at_its_cell x v wrong q = let right : v.1.1.1.1.0 ≡ 49 = ap (λ (k : Kept). k.next) q.answered in omega arith

  -- as much of a record written as there is room for
  pub cut_record_not_put : PuttingRecord 48 (λ x after next. x ≡ 0)
  unfolding log.unfolded
  cut_record_not_put x v wrong q = let right : x ≡ 12 = ap (λ (k : Kept). k.refusal) q.answered in omega arith

  -- the list of a log into a run of so many zeros; the two numbers are lent as nines
  abbrev Listing : List ℕ → ℕ → (ℕ → List ℕ → List ℕ → Type 0) → Type 0
  Listing octets room Wrong =
      Never list-kinds.ps list-kinds.r list-reads.Post κs (lent l octets, (lent_mut c (replicate room 0), (lent_mut n (9 ∷ 9 ∷ []), tt)))
      (λ x v. Wrong x v.1.0 v.1.1.0)

  -- nothing said of a log that can't be read
  pub empty_log_not_passed_over : Listing [] 100 (λ x run numbers. get_or numbers 0 0 ≡ 0)
  unfolding log.unfolded list_to digits_of
  empty_log_not_passed_over x v wrong q =
      let right : get_or v.1.1.0 0 0 ≡ 15 = ap (λ (l : List ℕ). get_or l 0 0) q.said in omega arith

  -- a list that its run cuts told as whole
  pub cut_list_not_whole : Listing [] 14 (λ x run numbers. get_or numbers 1 0 ≡ 1)
  unfolding log.unfolded list_to digits_of
  cut_list_not_whole x v wrong q =
      let right : get_or v.1.1.0 1 0 ≡ 0 = ap (λ (l : List ℕ). get_or l 1 0) q.said in omega arith

  -- the log's refusal returned, as if the call were refused
  pub list_not_refused : Listing [] 100 (λ x run numbers. x ≡ 11)
  list_not_refused x v wrong q = let right : x ≡ 0 = q.refused in omega arith
