-- Wrong answers to the public functions: the contracts rule each of them out. Stated over the contracts themselves.
-- Assumes nothing.
use mathlib.Core.List.{List, [], ◌∷◌}
use mathlib.Core.Path.{◌≡◌, ap}
use Prim.Native.Nat.{ℕ}
use native.Mathlib.Omega.{arith}
use contract.Lifetimes.{Lfts}
use lib.ListN.{get_or, replicate}
use Rattle.runs.specs.Runs.{over}
use Rattle.runs.proofs.Wrong.{Never, Place, lent, lent_mut}
use Rattle.pieces.proofs.Wrong as pieces
use Rattle.pieces.specs.declared.Standing.{Standing}
use Rattle.text.specs.declared.Put.{Put}
use Rattle.text.specs.Text.{digits_of}
use Rattle.stops.specs.declared.Stop.{Stop}
use Rattle.stops.specs.Kept.{kept_with, kept_at}
use Rattle.stops.specs.Stops.{stop_by, end_stop, stop_of, begin_of, reason_of, line_of}
use Rattle.stops.proofs.keep.Kinds as keep-kinds
use Rattle.stops.proofs.keep.Reads as keep-reads
use Rattle.stops.proofs.kept.Kinds as kept-kinds
use Rattle.stops.proofs.kept.Reads as kept-reads
use Rattle.stops.proofs.of.Kinds as of-kinds
use Rattle.stops.proofs.of.Reads as of-reads
use Rattle.stops.proofs.put_line.Kinds as put-line-kinds
use Rattle.stops.proofs.put_line.Reads as put-line-reads

-- every definition on the way down to the numbers
unfolded : Unit {0}
unfolding pieces.unfolded pieces.steps_unfolded end_stop stop_of
unfolded = tt

printed : Unit {0}
unfolding over digits_of begin_of reason_of line_of
printed = tt

-- behind seven records, with this stage, refusal and so many octets held
abbrev seventh : ℕ → ℕ → ℕ → Standing
seventh stage fault count = record { stage = stage; fault = fault; count = count; left = 100; records = 7 }

module _ (κs : Lfts 0) where
  abbrev Stopped : Standing → (Stop → Type 0) → Type 0
  Stopped s Wrong = Never of-kinds.ps of-kinds.r of-reads.Post κs (s, (replicate 49 0, tt)) (λ x v. Wrong x)

  -- a record that is cut, told as a log that ended well
  pub cut_record_not_well : Stopped (seventh 1 0 30) (λ x. x.what ≡ 0)
  unfolding unfolded
  cut_record_not_well x v wrong s = let right : x.what ≡ 2 = ap (λ (t : Stop). t.what) s in omega arith

  -- the record behind the broken one named, and a refused header taken for a record
  pub broken_not_the_next : Stopped (seventh 3 11 0) (λ x. x.number ≡ 8)
  unfolding unfolded
  broken_not_the_next x v wrong s = let right : x.number ≡ 7 = ap (λ (t : Stop). t.number) s in omega arith

  pub header_no_record : Stopped (seventh 2 1 0) (λ x. x.what ≡ 2)
  unfolding unfolded
  header_no_record x v wrong s = let right : x.what ≡ 1 = ap (λ (t : Stop). t.what) s in omega arith

module _ (κs : Lfts 1) (p : Place) where
  abbrev Line : Stop → (Put → List ℕ → Type 0) → Type 0
  Line stop Wrong =
      Never put-line-kinds.ps put-line-kinds.r put-line-reads.Post κs (stop, (lent_mut p (replicate 80 0), tt)) (λ x v. Wrong x v.1.0)

  -- a line for a log that ended well
  pub well_has_no_line : Line (stop_by 0 0 7) (λ x run. x.octets ≡ 80)
  unfolding printed
  well_has_no_line x v wrong s = let right : x.octets ≡ 0 = ap (λ (l : Put). l.octets) s.printed in omega arith

  -- `record 7 broken 12: ..` with another refusal: 50 is the digit 2
  pub refusal_in_the_line : Line (stop_by 2 12 7) (λ x run. get_or run 17 0 ≡ 49)
  unfolding printed
  refusal_in_the_line x v wrong s = let right : get_or v.1.0 17 0 ≡ 50 = ap (λ (l : List ℕ). get_or l 17 0) s.wrote in omega arith

  -- two logs, nines before
  abbrev Keeps : ℕ → (List ℕ → Type 0) → Type 0
  Keeps log Wrong =
      Never keep-kinds.ps keep-kinds.r keep-reads.Post κs (lent_mut p (replicate 6 9), (log, (stop_by 2 12 7, tt))) (λ x v. Wrong v.0)

  -- the second log's place left as it was, and the first one's written
  pub kept_at_its_place : Keeps 1 (λ run. get_or run 4 0 ≡ 9)
  unfolding kept_with
  kept_at_its_place x v wrong s = let right : get_or v.0 4 0 ≡ 12 = ap (λ (l : List ℕ). get_or l 4 0) s in omega arith

  pub others_kept : Keeps 1 (λ run. get_or run 0 0 ≡ 2)
  unfolding kept_with
  others_kept x v wrong s = let right : get_or v.0 0 0 ≡ 9 = ap (λ (l : List ℕ). get_or l 0 0) s in omega arith

  -- what is kept told as of a log that ended well
  pub kept_back : Never kept-kinds.ps kept-kinds.r kept-reads.Post κs (lent p (0 ∷ 0 ∷ 0 ∷ 2 ∷ 12 ∷ 7 ∷ []), (1, tt)) (λ x v. x.what ≡ 0)
  unfolding kept_at
  kept_back x v wrong s = let right : x.what ≡ 2 = ap (λ (t : Stop). t.what) s in omega arith
