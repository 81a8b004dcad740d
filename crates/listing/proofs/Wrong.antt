-- Wrong answers to the public functions: the contracts rule each of them out. Stated over the contracts themselves.
-- Assumes nothing.
use Rattle.std.proofs.Common.{◌≡◌, ℕ, Bool, true, false, List, [], ◌∷◌, get_or, replicate, sym, ap, ◌∙◌, true≢false, arith}
use contract.Lifetimes.{Lfts}
use Rattle.runs.specs.Runs.{over}
use Rattle.runs.proofs.Wrong.{Never, Place, lent, lent_mut}
use Rattle.receiver.proofs.Wrong as receiver
use Rattle.pieces.proofs.Wrong as pieces
use Rattle.pieces.specs.Steps.{steps_from, stood_of}
use Rattle.text.specs.declared.Put.{Put}
use Rattle.text.specs.Put.{Filling, put_one, put_all}
use Rattle.listing.specs.declared.Listing.{Listing}
use Rattle.listing.specs.declared.Printed.{Printed}
use Rattle.listing.specs.List.{line_of}
use Rattle.listing.specs.Taking.{after_of, end_text, part_text, part_tally, text_of, tally_of, start_of}
use Rattle.text.specs.Text.{digits_of}
use Rattle.text.specs.Words.{words}
use Rattle.listing.proofs.end.Kinds as end-kinds
use Rattle.listing.proofs.end.Reads as end_reads
use Rattle.listing.proofs.lines.log_refused_line.Kinds as log-refused-line-kinds
use Rattle.listing.proofs.lines.log_refused_line.Reads as log-refused-line-reads
use Rattle.listing.proofs.lines.refused_line.Kinds as refused-line-kinds
use Rattle.listing.proofs.lines.refused_line.Reads as refused-line-reads
use Rattle.listing.proofs.reads_on.Kinds as reads-on-kinds
use Rattle.listing.proofs.reads_on.Reads as reads-on-reads
use Rattle.listing.proofs.start.Kinds as start-kinds
use Rattle.listing.proofs.start.Reads as start-reads
use Rattle.listing.proofs.start_longest.Kinds as start-longest-kinds
use Rattle.listing.proofs.start_longest.Reads as start-longest-reads
use Rattle.listing.proofs.take.Kinds as take-kinds
use Rattle.listing.proofs.take.Reads as take-reads

-- every definition on the way down to the numbers
unfolded : Unit {0}
unfolding over receiver.unfolded pieces.unfolded pieces.steps_unfolded steps_from stood_of digits_of line_of after_of end_text part_text part_tally text_of tally_of
unfolded = tt

-- the paper's zero cell, and its log: 56 02 00, then twice 00 and that cell
abbrev slots : ℕ → List ℕ → List ℕ
slots low rest = 0 ∷ 0 ∷ 0 ∷ low ∷ 0 ∷ 0 ∷ 0 ∷ low ∷ 0 ∷ 0 ∷ 0 ∷ low ∷ 0 ∷ 0 ∷ 0 ∷ low ∷ rest

abbrev twice : List ℕ
twice = 0x56 ∷ 2 ∷ 0 ∷ 0 ∷ slots 7 (slots 15 (slots 7 (0 ∷ slots 7 (slots 15 (slots 7 [])))))

-- the log of one cell numbered 5 that came with indication 1
abbrev slot : ℕ → List ℕ → List ℕ
slot low rest = 0 ∷ 0 ∷ 0 ∷ low ∷ rest

abbrev indicated : List ℕ
indicated = 0x56 ∷ 2 ∷ 0 ∷ 1 ∷ slot 15 (slot 7 (slot 15 (slot 7 (slot 15 (slot 7 (slot 7 (slot 15 (slots 7 []))))))))

abbrev zeros : ℕ → List ℕ
zeros n = replicate n 0

module _ (κs : Lfts 3) (p q r : Place) where
  -- a log of so many octets at most, taken in one piece, its list written into a run of so many zeros
  abbrev Taken : ℕ → List ℕ → ℕ → (Printed → List ℕ → Type 0) → Type 0
  Taken limit log room Wrong =
      Never take-kinds.ps take-kinds.r take-reads.Post κs
      (start_of limit, (lent_mut p (zeros 49), (lent q log, (lent_mut r (zeros room), tt)))) (λ x v. Wrong x v.1.1.1.0)

  -- the repeat told as sound
  pub repeat_not_sound : Taken 1000 twice 100 (λ x run.
      run ≡ over (words "format 86 2 0\n0 sound 0 number 0\n1 sound 0 number 0\n") (zeros 100))
  unfolding unfolded
  repeat_not_sound x v wrong s =
      let word : ◌≡◌ {A = ℕ} 115 114 = ap (λ (l : List ℕ). get_or l 35 0) (sym wrong ∙ s.wrote) in omega arith

  -- the indication not looked at, and the cell told as sound
  pub wrongly_indicated_not_sound : Taken 1000 indicated 100 (λ x run.
      run ≡ over (words "format 86 2 0\n0 sound 0 number 5\n") (zeros 100))
  unfolding unfolded
  wrongly_indicated_not_sound x v wrong s =
      let word : ◌≡◌ {A = ℕ} 115 114 = ap (λ (l : List ℕ). get_or l 16 0) (sym wrong ∙ s.wrote) in omega arith

  -- refused 15 and not counted as refused
  pub refused_15_not_passed_over : Taken 1000 indicated 100 (λ x run. x.listing.tally.refused ≡ 0)
  unfolding unfolded
  refused_15_not_passed_over x v wrong s =
      let right : x.listing.tally.refused ≡ 1 = ap (λ (l : Listing). l.tally.refused) s.goes_on in omega arith

  -- a record that is broken counted as refused
  pub broken_not_refused : Taken 1000 (0x56 ∷ 2 ∷ 0 ∷ 2 ∷ []) 100 (λ x run.
      run ≡ over (words "format 86 2 0\n0 broken 11\nend 0 sound 0 missing 1 refused\n") (zeros 100))
  unfolding unfolded
  broken_not_refused x v wrong s =
      let digit : ◌≡◌ {A = ℕ} 49 48 = ap (λ (l : List ℕ). get_or l 48 0) (sym wrong ∙ s.wrote) in omega arith

  -- an octet past the limit turns the log away
  pub long_log_not_turned_away : Taken 3 (0x56 ∷ 2 ∷ 0 ∷ 0 ∷ []) 100 (λ x run. run ≡ over (words "log refused 13\n") (zeros 100))
  unfolding unfolded
  long_log_not_turned_away x v wrong s =
      let letter : ◌≡◌ {A = ℕ} 108 102 = ap (λ (l : List ℕ). get_or l 0 0) (sym wrong ∙ s.wrote) in omega arith

  -- a list that its run cuts told as whole
  pub cut_list_not_whole : Taken 1000 (0x56 ∷ 2 ∷ 0 ∷ []) 13 (λ x run. x.listed.whole ≡ true)
  unfolding unfolded
  cut_list_not_whole x v wrong s = true≢false (sym wrong ∙ ap (λ (l : Put). l.whole) s.printed)

module _ (κs : Lfts 1) (p : Place) where
  abbrev Ended : Listing → (Put → List ℕ → Type 0) → Type 0
  Ended l Wrong = Never end-kinds.ps end-kinds.r end_reads.Post κs (l, (zeros 49, (lent_mut p (zeros 100), tt))) (λ x v. Wrong x v.1.1.0)

  -- nothing said of a log that can't be read
  pub empty_log_not_passed_over : Ended (start_of 1000) (λ x run. x.octets ≡ 0)
  unfolding unfolded
  empty_log_not_passed_over x v wrong s = let right : x.octets ≡ 15 = ap (λ (l : Put). l.octets) s.printed in omega arith

  -- it is told as one that has an end
  pub empty_log_has_no_end_line : Ended (start_of 1000) (λ x run. run ≡ over (words "end 0 sound 0 missing 0 refused\n") (zeros 100))
  unfolding unfolded
  empty_log_has_no_end_line x v wrong s =
      let letter : ◌≡◌ {A = ℕ} 101 108 = ap (λ (l : List ℕ). get_or l 0 0) (sym wrong ∙ s.wrote) in omega arith

module _ (κs : Lfts 0) where
  abbrev Started : (Listing → Type 0) → Type 0
  Started Wrong = Never start-kinds.ps start-kinds.r start-reads.Post κs (1000, tt) (λ x v. Wrong x)

  -- the limit not kept, and something counted
  pub start_keeps_the_limit : Started (λ x. x.standing.left ≡ 65536)
  start_keeps_the_limit x v wrong s = let right : x.standing.left ≡ 1000 = ap (λ (l : Listing). l.standing.left) s in omega arith

  pub start_counts_nothing : Started (λ x. x.tally.records ≡ 1)
  start_counts_nothing x v wrong s = let right : x.tally.records ≡ 0 = ap (λ (l : Listing). l.tally.records) s in omega arith

module _ (κs : Lfts 0) where
  -- a limit of 4,000,000 octets in the place of request 14's
  pub longest_no_less : Never start-longest-kinds.ps start-longest-kinds.r start-longest-reads.Post κs tt (λ x v.
      x.standing.left ≡ 4000000)
  longest_no_less x v wrong s =
      let right : x.standing.left ≡ 4294967295 = ap (λ (l : Listing). l.standing.left) s in omega arith

  -- a list that reads no octet, and one that reads on behind a broken record
  abbrev Wanted : Listing → (Bool → Type 0) → Type 0
  Wanted listing Wrong = Never reads-on-kinds.ps reads-on-kinds.r reads-on-reads.Post κs (listing, tt) (λ x v. Wrong x)

  abbrev at_stage : ℕ → Listing
  at_stage stage =
      record {
        standing = record { stage = stage; fault = 11; count = 0; left = 7; records = 0 };
        tally = (start_of 10).tally;
      }

  pub reads_the_first : Wanted (start_of 10) (λ x. x ≡ false)
  reads_the_first x v wrong s = true≢false (sym s ∙ wrong)

  pub broken_reads_no_more : Wanted (at_stage 3) (λ x. x ≡ true)
  broken_reads_no_more x v wrong s = true≢false (sym wrong ∙ s)

module _ (κs : Lfts 1) (p : Place) where
  abbrev empty : Put
  empty = record { octets = 0; whole = true }

  -- record 7 refused by 9: the two in each other's place, and no line
  abbrev Refused : (Put → List ℕ → Type 0) → Type 0
  Refused Wrong = Never refused-line-kinds.ps refused-line-kinds.r refused-line-reads.Post κs (lent_mut p (zeros 20), (empty, (7, (9, tt)))) (λ x v. Wrong x v.0)

  pub record_before_its_refusal : Refused (λ x run. get_or run 0 0 ≡ 57)
  unfolding unfolded put_one put_all
  record_before_its_refusal x v wrong s = let digit : ◌≡◌ {A = ℕ} 57 55 = sym wrong ∙ ap (λ (f : Filling). get_or f.run 0 0) s.is in omega arith

  pub refused_record_has_a_line : Refused (λ x run. x.octets ≡ 0)
  unfolding unfolded put_one put_all
  refused_record_has_a_line x v wrong s = let right : x.octets ≡ 12 = ap (λ (f : Filling). f.past.octets) s.is in omega arith

  -- a log refused by 3: told without the number, and with another one
  abbrev LogRefused : (Put → List ℕ → Type 0) → Type 0
  LogRefused Wrong = Never log-refused-line-kinds.ps log-refused-line-kinds.r log-refused-line-reads.Post κs (lent_mut p (zeros 20), (empty, (3, tt))) (λ x v. Wrong x v.0)

  pub log_refused_by_a_number : LogRefused (λ x run. x.octets ≡ 12)
  unfolding unfolded put_one put_all
  log_refused_by_a_number x v wrong s = let right : x.octets ≡ 14 = ap (λ (f : Filling). f.past.octets) s.is in omega arith

  pub log_refused_by_its_number : LogRefused (λ x run. get_or run 12 0 ≡ 48)
  unfolding unfolded put_one put_all
  log_refused_by_its_number x v wrong s = let digit : ◌≡◌ {A = ℕ} 48 51 = sym wrong ∙ ap (λ (f : Filling). get_or f.run 12 0) s.is in omega arith
