-- Wrong answers to the public functions: the contracts rule each of them out. Stated over the contracts themselves.
-- Assumes nothing.
use mathlib.Core.Bool.{true, true≢false}
use mathlib.Core.List.{List}
use mathlib.Core.Path.{◌≡◌, sym, ◌∙◌, ap}
use Prim.Native.Nat.{ℕ}
use native.Mathlib.Omega.{arith}
use contract.Lifetimes.{Lfts}
use lib.ListN.{get_or, replicate}
use Rattle.runs.proofs.Wrong.{Never, Place, lent, lent_mut}
use Rattle.text.specs.declared.Put.{Put}
use Rattle.text.specs.Put.{Filling, put_one, put_all}
use Rattle.text.specs.Text.{digits_of}
use Rattle.text.specs.Words.{words}
use Rattle.text.proofs.put_all.Kinds as put-all-kinds
use Rattle.text.proofs.put_all.Reads as put-all-reads
use Rattle.text.proofs.put_item.Kinds as put-item-kinds
use Rattle.text.proofs.put_item.Reads as put-item-reads
use Rattle.text.proofs.put_line.Kinds as put-line-kinds
use Rattle.text.proofs.put_line.Reads as put-line-reads
use Rattle.text.proofs.put_number.Kinds as put-number-kinds
use Rattle.text.proofs.put_number.Reads as put-number-reads

-- every definition on the way down to the numbers
unfolded : Unit {0}
unfolding put_one put_all digits_of
unfolded = tt

abbrev zeros : ℕ → List ℕ
zeros n = replicate n 0

abbrev from : ℕ → Put
from place = record { octets = place; whole = true }

module _ (κs : Lfts 2) (p q : Place) where
  -- two letters put behind the first octet of a run of so many zeros
  abbrev Two : ℕ → (Put → List ℕ → Type 0) → Type 0
  Two room Wrong =
      Never put-all-kinds.ps put-all-kinds.r put-all-reads.Post κs
      (lent_mut p (zeros room), (from 1, (lent q (words "ab"), tt))) (λ x v. Wrong x v.0)

  -- letters that don't fit told as put
  pub cut_not_whole : Two 2 (λ x run. x.whole ≡ true)
  unfolding unfolded
  cut_not_whole x v wrong s = true≢false (sym wrong ∙ ap (λ (f : Filling). f.past.whole) s.is)

  -- nothing written
  pub not_left_out : Two 4 (λ x run. run ≡ zeros 4)
  unfolding unfolded
  not_left_out x v wrong s =
      let letter : ◌≡◌ {A = ℕ} 0 97 = ap (λ (l : List ℕ). get_or l 1 0) (sym wrong) ∙ ap (λ (f : Filling). get_or f.run 1 0) s.is in omega arith

  -- a number behind a letter
  abbrev Item : (Put → List ℕ → Type 0) → Type 0
  Item Wrong =
      Never put-item-kinds.ps put-item-kinds.r put-item-reads.Post κs
      (lent_mut p (zeros 4), (from 0, (lent q (words "k"), (12, tt)))) (λ x v. Wrong x v.0)

  -- a line of a letter and a number
  abbrev Line : (Put → List ℕ → Type 0) → Type 0
  Line Wrong =
      Never put-line-kinds.ps put-line-kinds.r put-line-reads.Post κs
      (lent_mut p (zeros 4), (from 0, (lent q (words "k"), (12, tt)))) (λ x v. Wrong x v.0)

  -- its end left out, and not counted
  pub line_not_without_end : Line (λ x run. get_or run 3 0 ≡ 0)
  unfolding unfolded
  line_not_without_end x v wrong s = let letter : ◌≡◌ {A = ℕ} 0 10 = sym wrong ∙ ap (λ (f : Filling). get_or f.run 3 0) s.is in omega arith

  pub line_end_counted : Line (λ x run. x.octets ≡ 3)
  unfolding unfolded
  line_end_counted x v wrong s = let right : x.octets ≡ 4 = ap (λ (f : Filling). f.past.octets) s.is in omega arith

  -- the number before the letter, and one octet too few told
  pub words_first : Item (λ x run. get_or run 0 0 ≡ 49)
  unfolding unfolded
  words_first x v wrong s = let letter : ◌≡◌ {A = ℕ} 49 107 = sym wrong ∙ ap (λ (f : Filling). get_or f.run 0 0) s.is in omega arith

  pub item_told_whole : Item (λ x run. x.octets ≡ 2)
  unfolding unfolded
  item_told_whole x v wrong s = let right : x.octets ≡ 3 = ap (λ (f : Filling). f.past.octets) s.is in omega arith

module _ (κs : Lfts 1) (p : Place) where
  abbrev Number : ℕ → (Put → List ℕ → Type 0) → Type 0
  Number n Wrong =
      Never put-number-kinds.ps put-number-kinds.r put-number-reads.Post κs (lent_mut p (zeros 4), (from 0, (n, tt))) (λ x v. Wrong x v.0)

  -- the digits from the last one on
  pub digits_not_turned_round : Number 12 (λ x run. get_or run 0 0 ≡ 50)
  unfolding unfolded
  digits_not_turned_round x v wrong s =
      let digit : ◌≡◌ {A = ℕ} 50 49 = sym wrong ∙ ap (λ (f : Filling). get_or f.run 0 0) s.is in omega arith

  -- no digit for nought
  pub nought_has_a_digit : Number 0 (λ x run. x.octets ≡ 0)
  unfolding unfolded
  nought_has_a_digit x v wrong s = let right : x.octets ≡ 1 = ap (λ (f : Filling). f.past.octets) s.is in omega arith
