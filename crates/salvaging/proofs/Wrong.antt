-- Wrong answers to the public functions: the contracts rule each of them out. Stated over the contracts themselves.
-- Assumes nothing.
use Rattle.std.proofs.Common.{◌≡◌, ℕ, true, List, ◌∷◌, get_or, replicate, sym, ap, ◌∙◌, true≢false, arith}
use contract.Lifetimes.{Lfts}
use Rattle.runs.specs.Runs.{over}
use Rattle.runs.proofs.Wrong.{Never, Place, lent, lent_mut}
use Rattle.receiver.proofs.Wrong as receiver
use Rattle.pieces.proofs.Wrong as pieces
use Rattle.pieces.specs.Steps.{steps_from, stood_of}
use Rattle.text.specs.declared.Put.{Put}
use Rattle.text.specs.Text.{digits_of}
use Rattle.text.specs.Words.{words}
use Rattle.salvaging.specs.declared.Salvaging.{Salvaging}
use Rattle.salvaging.specs.declared.Wrote.{Wrote}
use Rattle.salvaging.specs.Taking.{after_of, part_octets, part_text, part_tally, octets_by, text_by, tally_by, last_text, start_of}
use Rattle.salvaging.proofs.end.Kinds as end-kinds
use Rattle.salvaging.proofs.end.Reads as end_reads
use Rattle.salvaging.proofs.start.Kinds as start-kinds
use Rattle.salvaging.proofs.start.Reads as start-reads
use Rattle.salvaging.proofs.take.Kinds as take-kinds
use Rattle.salvaging.proofs.take.Reads as take-reads

-- every definition on the way down to the numbers
unfolded : Unit {0}
unfolding over receiver.unfolded pieces.unfolded pieces.steps_unfolded steps_from stood_of digits_of after_of part_octets part_text
    part_tally octets_by text_by tally_by last_text
unfolded = tt

abbrev zeros : ℕ → List ℕ
zeros n = replicate n 0

-- a header, a record of zeros, which the receiver refuses 8, and five octets of another
abbrev torn : List ℕ
torn = 0x56 ∷ 2 ∷ 0 ∷ zeros 54

module _ (κs : Lfts 4) (p q r s : Place) where
  -- that log taken in one piece, with so much room in each run
  abbrev Taken : ℕ → ℕ → (Wrote → List ℕ → List ℕ → Type 0) → Type 0
  Taken out notes Wrong =
      Never take-kinds.ps take-kinds.r take-reads.Post κs
      (start_of, (lent_mut p (zeros 49), (lent q torn, (lent_mut r (zeros out), (lent_mut s (zeros notes), tt)))))
      (λ x v. Wrong x v.1.1.1.0 v.1.1.1.1.0)

  -- a refused record goes into the new log
  pub refused_record_not_kept : Taken 100 100 (λ x out notes. x.saved.octets ≡ 52)
  unfolding unfolded
  refused_record_not_kept x v wrong t = let right : x.saved.octets ≡ 3 = ap (λ (u : Put). u.octets) t.saved in omega arith

  -- it is left out, and the line of it counts records from 1
  pub records_counted_from_0 : Taken 100 100 (λ x out notes. get_or notes 0 0 ≡ 49)
  unfolding unfolded
  records_counted_from_0 x v wrong t =
      let right : get_or v.1.1.1.1.0 0 0 ≡ 48 = ap (λ (l : List ℕ). get_or l 0 0) t.wrote_notes in omega arith

  -- its octets are counted as kept
  pub left_out_not_kept : Taken 100 100 (λ x out notes. x.salvaging.tally.kept ≡ 1)
  unfolding unfolded
  left_out_not_kept x v wrong t =
      let right : x.salvaging.tally.kept ≡ 0 = ap (λ (u : Salvaging). u.tally.kept) t.goes_on in omega arith

  -- notes that their run cuts told as whole
  pub cut_notes_not_whole : Taken 100 5 (λ x out notes. x.noted.whole ≡ true)
  unfolding unfolded
  cut_notes_not_whole x v wrong t = true≢false (sym wrong ∙ ap (λ (u : Put). u.whole) t.noted)

-- behind a log of 57 octets, of which 52 were of whole parts
abbrev behind : Salvaging
behind =
    record {
      standing = record { stage = 1; fault = 0; count = 5; left = 100; records = 1 };
      octets = 57;
      tally = record { state = start_of.tally.state; refusal = 0; taken = 52; kept = 0; left_out = 1 };
    }

module _ (κs : Lfts 1) (p : Place) where
  abbrev Ended : Salvaging → (Put → List ℕ → Type 0) → Type 0
  Ended u Wrong = Never end-kinds.ps end-kinds.r end_reads.Post κs (u, (zeros 49, (lent_mut p (zeros 100), tt))) (λ x v. Wrong x v.1.1.0)

  -- the octets cut not told
  pub cut_octets_told : Ended behind (λ x notes. notes ≡ over (words "end 0 kept 1 left out 0 cut\n") (zeros 100))
  unfolding unfolded
  cut_octets_told x v wrong t =
      let digit : ◌≡◌ {A = ℕ} 48 53 = ap (λ (l : List ℕ). get_or l 22 0) (sym wrong ∙ t.wrote_notes) in omega arith

  -- a log of no octets told as one that was saved
  pub empty_log_not_saved : Ended start_of (λ x notes. notes ≡ over (words "end 0 kept 0 left out 0 cut\n") (zeros 100))
  unfolding unfolded
  empty_log_not_saved x v wrong t =
      let letter : ◌≡◌ {A = ℕ} 101 108 = ap (λ (l : List ℕ). get_or l 0 0) (sym wrong ∙ t.wrote_notes) in omega arith

module _ (κs : Lfts 0) where
  abbrev Started : (Salvaging → Type 0) → Type 0
  Started Wrong = Never start-kinds.ps start-kinds.r start-reads.Post κs tt (λ x v. Wrong x)

  -- the limit of another program, and something counted
  pub no_limit_of_linelist : Started (λ x. x.standing.left ≡ 4294967295)
  no_limit_of_linelist x v wrong t =
      let right : x.standing.left ≡ 18446744073709551615 = ap (λ (u : Salvaging). u.standing.left) t in omega arith

  pub start_counts_nothing : Started (λ x. x.tally.kept ≡ 1)
  start_counts_nothing x v wrong t = let right : x.tally.kept ≡ 0 = ap (λ (u : Salvaging). u.tally.kept) t in omega arith
