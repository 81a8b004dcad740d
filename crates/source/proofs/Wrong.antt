-- Wrong answers to what a word is, and to what is to be done behind a read: the contracts rule each of them out. Stated over the
-- contracts themselves.
-- Assumes nothing.
use mathlib.Core.Bool.{true, false, true≢false}
use mathlib.Core.List.{List, [], ◌∷◌}
use mathlib.Core.Path.{◌≡◌, sym, ◌∙◌, ap}
use Prim.Native.Nat.{ℕ}
use native.Mathlib.Omega.{arith}
use contract.Lifetimes.{Lfts}
use lib.IntN.{ℤ, pos, negsuc}
use Rattle.runs.proofs.Wrong.{Never, Place, lent}
use Rattle.text.specs.Words.{words}
use Rattle.source.specs.declared.turns.Next.{Next}
use Rattle.source.specs.declared.turns.Next.TheVariants.{On, End, Failed}
use Rattle.source.specs.declared.turns.Turn as code
use Rattle.source.specs.Arguments as kinds
use Rattle.source.specs.Kinds.{kind_of}
use Rattle.source.specs.Turns.{Turn, came_of, turn_of}
use Rattle.source.specs.Numbered.{number_of, turned}
use Rattle.source.proofs.kind.Kinds as kind-kinds
use Rattle.source.proofs.kind.Reads as kind-reads
use Rattle.source.proofs.turns.answered.Kinds as answered-kinds
use Rattle.source.proofs.turns.answered.Reads as answered-reads
use Rattle.source.proofs.turns.first.Kinds as first-kinds
use Rattle.source.proofs.turns.first.Reads as first_reads
use Rattle.source.proofs.turns.goes_on.Kinds as goes-on-kinds
use Rattle.source.proofs.turns.goes_on.Reads as goes-on-reads
use Rattle.source.proofs.turns.U8FromNext.from.Kinds as from-kinds
use Rattle.source.proofs.turns.U8FromNext.from.Reads as from-reads
use Rattle.source.proofs.turns.well.Kinds as well-kinds
use Rattle.source.proofs.turns.well.Reads as well-reads
use Rattle.source.proofs.turns.Turn.goes_on.Kinds as turn-goes-on-kinds
use Rattle.source.proofs.turns.Turn.goes_on.Reads as turn-goes-on-reads
use Rattle.source.proofs.turns.Turn.well.Kinds as turn-well-kinds
use Rattle.source.proofs.turns.Turn.well.Reads as turn-well-reads

module _ (κs : Lfts 1) (p : Place) where
  abbrev Word : List ℕ → (ℕ → Type 0) → Type 0
  Word word Wrong = Never kind-kinds.ps kind-kinds.r kind-reads.Post κs (lent p word, tt) (λ x v. Wrong (kinds.number_of x))

  -- `-` taken for a file, and an option taken for one
  pub dash_no_file : Word (words "-") (λ x. x ≡ 1)
  unfolding kind_of
  dash_no_file x v wrong s = let right : kinds.number_of x ≡ 2 = s in omega arith

  pub option_no_file : Word (words "-v") (λ x. x ≡ 1)
  unfolding kind_of
  option_no_file x v wrong s = let right : kinds.number_of x ≡ 3 = s in omega arith

  -- a read into a buffer of three octets, with so many left
  abbrev Answered : ℤ → ℕ → (Turn → Type 0) → Type 0
  Answered got left Wrong =
      Never answered-kinds.ps answered-kinds.r answered-reads.Post κs (got, (lent p (0 ∷ 0 ∷ 0 ∷ []), (left, tt))) (λ x v. Wrong (turned x))

  -- a read that failed, taken for the log's end, or for octets that came
  pub failed_no_end : Answered (negsuc 0) 100 (λ x. x.what ≡ 2)
  unfolding turn_of
  failed_no_end x v wrong s = let right : number_of x.what ≡ 3 = ap (λ (t : Turn). t.what) s in omega arith

  pub failed_brings_none : Answered (negsuc 0) 100 (λ x. x.octets ≡ 3)
  unfolding turn_of
  failed_brings_none x v wrong s = let right : x.octets ≡ 0 = ap (λ (t : Turn). t.octets) s in omega arith

  -- the log's end, behind which another read would follow, or which is taken for a failure
  pub end_goes_not_on : Answered (pos 0) 100 (λ x. x.what ≡ 1)
  unfolding turn_of came_of
  end_goes_not_on x v wrong s = let right : number_of x.what ≡ 2 = ap (λ (t : Turn). t.what) s in omega arith

  pub end_no_failure : Answered (pos 0) 100 (λ x. x.what ≡ 3)
  unfolding turn_of came_of
  end_no_failure x v wrong s = let right : number_of x.what ≡ 2 = ap (λ (t : Turn). t.what) s in omega arith

  -- octets that came, taken for the last; one of them left out; and not counted
  pub octets_no_end : Answered (pos 2) 100 (λ x. x.what ≡ 2)
  unfolding turn_of came_of
  octets_no_end x v wrong s = let right : number_of x.what ≡ 1 = ap (λ (t : Turn). t.what) s in omega arith

  pub octets_all : Answered (pos 2) 100 (λ x. x.octets ≡ 1)
  unfolding turn_of came_of
  octets_all x v wrong s = let right : x.octets ≡ 2 = ap (λ (t : Turn). t.octets) s in omega arith

  pub octets_counted : Answered (pos 2) 100 (λ x. x.left ≡ 100)
  unfolding turn_of came_of
  octets_counted x v wrong s = let right : x.left ≡ 98 = ap (λ (t : Turn). t.left) s in omega arith

  -- more octets than can be counted, taken for the log's end
  pub uncounted_no_end : Answered (pos 2) 1 (λ x. x.what ≡ 2)
  unfolding turn_of came_of
  uncounted_no_end x v wrong s = let right : number_of x.what ≡ 4 = ap (λ (t : Turn). t.what) s in omega arith

module _ (κs : Lfts 0) where
  -- a program that stops when a million octets are read
  pub first_no_million : Never first-kinds.ps first-kinds.r first_reads.Post κs tt (λ x v. x.left ≡ 1000000)
  first_no_million x v wrong s =
      let right : x.left ≡ 18446744073709551615 = ap (λ (t : Turn). t.left) s in omega arith

  -- a loop that goes on behind a failed read, or behind the caller's last wish
  pub failed_goes_not_on : Never goes-on-kinds.ps goes-on-kinds.r goes-on-reads.Post κs (3, (true, tt)) (λ x v. x ≡ true)
  failed_goes_not_on x v wrong s = true≢false (sym wrong ∙ s)

  pub unwanted_goes_not_on : Never goes-on-kinds.ps goes-on-kinds.r goes-on-reads.Post κs (1, (false, tt)) (λ x v. x ≡ true)
  unwanted_goes_not_on x v wrong s = true≢false (sym wrong ∙ s)

  -- a failed read that ended well, and an end that didn't
  pub failed_not_well : Never well-kinds.ps well-kinds.r well-reads.Post κs (3, tt) (λ x v. x ≡ true)
  failed_not_well x v wrong s = true≢false (sym wrong ∙ s)

  pub end_well : Never well-kinds.ps well-kinds.r well-reads.Post κs (2, tt) (λ x v. x ≡ false)
  end_well x v wrong s = true≢false (sym s ∙ wrong)

  -- the same of a turn
  abbrev Turned : Next → code.Turn
  Turned what = record { what = what; octets = 0; left = 7 }

  pub failed_turn_goes_not_on : Never turn-goes-on-kinds.ps turn-goes-on-kinds.r turn-goes-on-reads.Post κs (Turned Failed, (true, tt)) (λ x v. x ≡ true)
  failed_turn_goes_not_on x v wrong s = true≢false (sym wrong ∙ s)

  pub unwanted_turn_goes_not_on : Never turn-goes-on-kinds.ps turn-goes-on-kinds.r turn-goes-on-reads.Post κs (Turned On, (false, tt)) (λ x v. x ≡ true)
  unwanted_turn_goes_not_on x v wrong s = true≢false (sym wrong ∙ s)

  pub failed_turn_not_well : Never turn-well-kinds.ps turn-well-kinds.r turn-well-reads.Post κs (Turned Failed, tt) (λ x v. x ≡ true)
  failed_turn_not_well x v wrong s = true≢false (sym wrong ∙ s)

  pub end_turn_well : Never turn-well-kinds.ps turn-well-kinds.r turn-well-reads.Post κs (Turned End, tt) (λ x v. x ≡ false)
  end_turn_well x v wrong s = true≢false (sym s ∙ wrong)

  -- a failed read with the number of an end, and octets that came with none
  pub failed_not_2 : Never from-kinds.ps from-kinds.r from-reads.Post κs (Failed, tt) (λ x v. x ≡ 2)
  failed_not_2 x v wrong p = omega (arith, p)

  pub on_not_0 : Never from-kinds.ps from-kinds.r from-reads.Post κs (On, tt) (λ x v. x ≡ 0)
  on_not_0 x v wrong p = omega (arith, p)
