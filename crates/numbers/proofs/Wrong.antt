-- Wrong answers, two for each public function: its contract rules them out. Stated over the contracts themselves.
-- Assumes nothing.
use Rattle.std.specs.Prelude.{Some, None}
use Rattle.std.proofs.Common.{◌≡◌, ℕ, true, false, sym, ◌∙◌, true≢false, arith}
use contract.Lifetimes.{Lfts}
use Rattle.runs.proofs.Wrong.{Never}
use Rattle.numbers.specs.Numbers.{table_a1, turned, place_in, found_of, word_bit, gathered, difference_of, indication_refused}
use Rattle.numbers.specs.Code.{sequence_of}
use Rattle.numbers.proofs.Laws.{found_as}
use Rattle.numbers.proofs.entry_of.Kinds as entry-of-kinds
use Rattle.numbers.proofs.entry_of.Reads as entry-of-reads
use Rattle.numbers.proofs.number_of.Kinds as number-of-kinds
use Rattle.numbers.proofs.number_of.Reads as number-of-reads
use Rattle.numbers.proofs.sequence_of.Kinds as sequence-of-kinds
use Rattle.numbers.proofs.sequence_of.Reads as sequence-of-reads
use Rattle.numbers.proofs.difference.Kinds as difference-kinds
use Rattle.numbers.proofs.difference.Reads as difference-reads
use Rattle.numbers.proofs.indication_refused.Kinds as indication-refused-kinds
use Rattle.numbers.proofs.indication_refused.Reads as indication-refused-reads

-- every definition on the way down to the numbers
unfoldable pub unfolded : Unit {0}
unfolding table_a1 turned place_in found_of word_bit sequence_of gathered difference_of indication_refused
unfolded = tt

apart : (n : ℕ) → None ≡ Some n → ⊥
apart n h = let same : ◌≡◌ {A = ℕ} 0 1 = cc in omega arith

module _ (κs : Lfts 0) where
  -- "Dividing the cell number as an ordinary integer: number 1 would then be 88 instead of 84."
  pub entry_not_divided_as_an_integer : Never entry-of-kinds.ps entry-of-kinds.r entry-of-reads.Post κs (1, tt) (λ x v. x ≡ 0x88)
  unfolding unfolded
  entry_not_divided_as_an_integer x v wrong p = omega arith

  -- number 17 is taken modulo 16, and not answered as past the table's end
  pub entry_not_past_the_end : Never entry-of-kinds.ps entry-of-kinds.r entry-of-reads.Post κs (17, tt) (λ x v. x ≡ 0)
  unfolding unfolded
  entry_not_past_the_end x v wrong p = omega arith

  -- a receiver that takes no number: an entry of the table answered with nothing
  pub number_not_always_refused : Never number-of-kinds.ps number-of-kinds.r number-of-reads.Post κs (0x84, tt) (λ x v. x ≡ None)
  unfolding unfolded
  number_not_always_refused x v wrong p = apart 1 (sym wrong ∙ found_as 0x84 x p)

  -- one bit beside number 1's entry is no number, not even number 1
  pub number_not_the_nearest : (n : ℕ) → Never number-of-kinds.ps number-of-kinds.r number-of-reads.Post κs (0x85, tt) (λ x v. x ≡ Some n)
  unfolding unfolded
  number_not_the_nearest n x v wrong p = apart n (sym (found_as 0x85 x p) ∙ wrong)

  -- the first eight bits of number 1's cell as the octet has them, the first one worth 128
  pub sequence_not_highest_first : Never sequence-of-kinds.ps sequence-of-kinds.r sequence-of-reads.Post κs (1, (0, tt)) (λ x v. x ≡ 0x84)
  unfolding unfolded
  sequence_not_highest_first x v wrong p = omega arith

  -- bits 9 to 12 highest first: second number 1 is worth 256, and not 2048
  pub sequence_not_second_highest_first : Never sequence-of-kinds.ps sequence-of-kinds.r sequence-of-reads.Post κs (0, (1, tt)) (λ x v. x ≡ 0x8F0)
  unfolding unfolded
  sequence_not_second_highest_first x v wrong p = omega arith

  -- from 15 on to 0 is 1, and not 15 back
  pub difference_not_turned_round : Never difference-kinds.ps difference-kinds.r difference-reads.Post κs (0, (15, tt)) (λ x v. x ≡ 15)
  unfolding unfolded
  difference_not_turned_round x v wrong p = omega arith

  -- the octets' difference is taken modulo 16: from 3 to 2 it is 15, and not 255
  pub difference_not_modulo_256 : Never difference-kinds.ps difference-kinds.r difference-reads.Post κs (2, (3, tt)) (λ x v. x ≡ 255)
  unfolding unfolded
  difference_not_modulo_256 x v wrong p = omega arith

  -- a box that lets any number carry the indication
  pub indication_not_always_taken :
      Never indication-refused-kinds.ps indication-refused-kinds.r indication-refused-reads.Post κs (12, (true, tt)) (λ x v. x ≡ false)
  unfolding unfolded
  indication_not_always_taken x v wrong p = true≢false (sym p ∙ wrong)

  -- one that turns down a cell without it
  pub no_indication_not_refused :
      Never indication-refused-kinds.ps indication-refused-kinds.r indication-refused-reads.Post κs (12, (false, tt)) (λ x v. x ≡ true)
  unfolding unfolded
  no_indication_not_refused x v wrong p = true≢false (sym wrong ∙ p)
