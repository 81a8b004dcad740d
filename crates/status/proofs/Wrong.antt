-- Wrong answers, two or more for each public function: its contract rules them out. Stated over the contracts themselves.
-- Assumes nothing.
use mathlib.Core.List.{List, [], ◌∷◌}
use mathlib.Core.Path.{◌≡◌, sym, ◌∙◌, ap}
use Prim.Native.Nat.{ℕ}
use native.Mathlib.Omega.{arith}
use seplogic.Ra.Ura.{Ura}
use base.Logic.{SProp, ent, id⊢}
use contract.Lifetimes.{Lfts}
use contract.Monad.{Fun, fact}
use denote.Triple.Clauses.{Lasts}
use denote.Triple.Entry.{Args}
use types.Logic.{Logic}
use lib.ListN.{get_or, set}
use prog.Memory.{Memory}
use prog.Routine.{Routine}
use Rattle.runs.specs.Division.{divided, taken_down}
use Rattle.runs.specs.Runs.{tab}
use Rattle.runs.proofs.Wrong.{Never, Place, lent, lent_mut, ruled_out}
use Rattle.status.specs.Answers.{answered_step, answered_run, number_of_fit}
use Rattle.status.specs.Bits.{bit_of, octet_with, with_bit, zeros}
use Rattle.status.specs.Check.{coefficient_of, check_character}
use Rattle.status.specs.Run.{Ran, ran_from, ran_of}
use Rattle.status.specs.Step.{Stepped, fit_of, is_refused, added_to, step_of, no_block}
use Rattle.status.specs.declared.step.Block.{Block}
use Rattle.status.specs.declared.step.Fit.TheVariants.{Differs, NoneCarried}
use Rattle.status.proofs.One.{Answer, Ensures, Says}
use Rattle.status.specs.contracts.assembler.bring_forward as bring-forward
use Rattle.status.proofs.assembler.brought_forward.Kinds as brought-forward-kinds
use Rattle.status.proofs.assembler.brought_forward.Reads as brought-forward-reads
use Rattle.status.proofs.check.check_character.Kinds as check-character-kinds
use Rattle.status.proofs.check.check_character.Reads as check-character-reads
use Rattle.status.proofs.run.run.Kinds as run-kinds
use Rattle.status.proofs.run.run.Reads as run-reads
use Rattle.status.proofs.step.U8FromFit.from.Kinds as from-kinds
use Rattle.status.proofs.step.U8FromFit.from.Reads as from-reads
use Rattle.status.proofs.step.step.Kinds as step-kinds
use Rattle.status.proofs.step.step.Reads as step-reads

-- every definition on the way down to the numbers
unfoldable pub unfolded : Unit {0}
unfolding divided taken_down tab bit_of octet_with with_bit coefficient_of check_character fit_of is_refused added_to step_of ran_from ran_of
unfolded = tt

-- a block of three bits, all of them 0; and two of 191, one of professional use, its first bit 1, and one of consumer use
abbrev begun : Block
begun = record { bits = 3; octets = zeros }

abbrev professional : Block
professional = record { bits = 191; octets = set zeros 0 1 }

abbrev consumer : Block
consumer = record { bits = 191; octets = zeros }

module _ (κs : Lfts 0) where
  -- the second example of Appendix 2, 32 hex: the register begun from zeros
  pub character_not_from_zeros : Never check-character-kinds.ps check-character-kinds.r check-character-reads.Post κs
      (set zeros 0 1, tt) (λ x v. x ≡ 0x82)
  unfolding unfolded
  character_not_from_zeros x v wrong p = omega arith

  -- the same, its highest coefficient as the highest bit
  pub character_not_highest_first : Never check-character-kinds.ps check-character-kinds.r check-character-reads.Post κs
      (set zeros 0 1, tt) (λ x v. x ≡ 0x4C)
  unfolding unfolded
  character_not_highest_first x v wrong p = omega arith

  -- a check character that isn't there told as one that fits, and one that doesn't fit as none
  pub none_carried_no_fit : Never from-kinds.ps from-kinds.r from-reads.Post κs (NoneCarried, tt) (λ x v. x ≡ 2)
  unfolding number_of_fit
  none_carried_no_fit x v wrong p = omega (arith, p)

  pub misfit_not_none : Never from-kinds.ps from-kinds.r from-reads.Post κs (Differs, tt) (λ x v. x ≡ 3)
  unfolding number_of_fit
  misfit_not_none x v wrong p = omega (arith, p)

  abbrev Step : Block → ℕ → ℕ → (Stepped → Type 0) → Type 0
  Step block ancillary mark Wrong =
      Never step-kinds.ps step-kinds.r step-reads.Post κs (block, (ancillary, (mark, tt))) (λ x v. Wrong (answered_step block x))

  -- C = 1 with B = 0 behind three bits: the highest bit first, or the block left as it was
  pub step_not_highest_bit_first : Step begun 4 0 (λ x. get_or x.block.octets 0 0 ≡ 16)
  unfolding unfolded
  step_not_highest_bit_first x v wrong p = omega (arith, ap (λ (s : Stepped). get_or s.block.octets 0 0) p)

  pub step_not_standing_still : Step begun 4 0 (λ x. x.block ≡ begun)
  unfolding unfolded
  step_not_standing_still x v wrong p =
      let same : ◌≡◌ {A = ℕ} 3 4 = ap (λ (b : Block). b.bits) (sym wrong ∙ ap (λ (s : Stepped). s.block) p) in omega arith

  -- B = 0 with no block begun begins none
  pub step_not_begun_without_b : Step no_block 4 0 (λ x. x.block.bits ≡ 1)
  unfolding unfolded
  step_not_begun_without_b x v wrong p = omega (arith, ap (λ (s : Stepped). s.block.bits) p)

  -- a finished block kept back, or handed out with a yes although octet 23 is not the check character
  pub finished_not_kept_back : Step professional 0 0 (λ x. x.handed.answer ≡ 0)
  unfolding unfolded
  finished_not_kept_back x v wrong p = omega (arith, ap (λ (s : Stepped). s.handed.answer) p)

  pub finished_not_always_yes : Step professional 0 0 (λ x. x.handed.answer ≡ 2)
  unfolding unfolded
  finished_not_always_yes x v wrong p = omega (arith, ap (λ (s : Stepped). s.handed.answer) p)

  -- a block of consumer use answered "doesn't fit", and one of professional use answered "none carried"
  pub consumer_not_judged : Step consumer 0 0 (λ x. x.handed.answer ≡ 1)
  unfolding unfolded
  consumer_not_judged x v wrong p = omega (arith, ap (λ (s : Stepped). s.handed.answer) p)

  pub professional_not_let_off : Step professional 0 0 (λ x. x.handed.answer ≡ 3)
  unfolding unfolded
  professional_not_let_off x v wrong p = omega (arith, ap (λ (s : Stepped). s.handed.answer) p)

  abbrev Forward : Block → ℕ → ℕ → (Stepped → Type 0) → Type 0
  Forward block ancillary mark Wrong =
      Never brought-forward-kinds.ps brought-forward-kinds.r brought-forward-reads.Post κs
      (block, (ancillary, (mark, tt))) (λ x v. Wrong (answered_step block x))

  -- mark 2 drops the block, and its B isn't looked at
  pub missing_not_looked_at : Forward begun 8 2 (λ x. x.block.bits ≡ 1)
  unfolding unfolded
  missing_not_looked_at x v wrong p = omega (arith, ap (λ (s : Stepped). s.block.bits) p)

  -- mark 1 counts like mark 0
  pub mark_1_not_left_out : Forward begun 4 1 (λ x. x.block.bits ≡ 3)
  unfolding unfolded
  mark_1_not_left_out x v wrong p = omega (arith, ap (λ (s : Stepped). s.block.bits) p)

-- the lent block: stated over the clauses, as in One.antt
module _ {M : Type 1} {𝓤 : Ura M} (𝓛 : Logic 𝓤) (mem : Memory → SProp 𝓤) (run : Routine → Fun 𝓤) (κs : Lfts 1) (b : Place) where
  abbrev called : ℕ → ℕ → Args bring-forward.signature κs
  called ancillary mark = (lent_mut b begun, (ancillary, (mark, tt)))

  abbrev NeverForward : ℕ → ℕ → (Answer → Block → Type 0) → Type 1
  NeverForward ancillary mark Wrong =
      (x : Answer) (v : Lasts bring-forward.ended κs (called ancillary mark)) → Wrong x v.0
      → ent 𝓤 (Ensures 𝓛 mem run κs (called ancillary mark) x v) (fact 𝓤 ⊥)

  -- the lent block left behind
  pub block_not_left_behind : NeverForward 4 0 (λ x block. block ≡ begun)
  unfolding unfolded
  block_not_left_behind x v wrong =
      ruled_out 𝓤 (Says 𝓛 mem run κs (called 4 0) x v) (id⊢ 𝓤 _) (λ p.
      let same : ◌≡◌ {A = ℕ} 3 4 = ap (λ (t : Block). t.bits) (sym wrong ∙ p.1) in omega arith)

  -- a block that is refused cleared
  pub refused_not_cleared : NeverForward 16 0 (λ x block. block.bits ≡ 0)
  unfolding unfolded
  refused_not_cleared x v wrong =
      ruled_out 𝓤 (Says 𝓛 mem run κs (called 16 0) x v) (id⊢ 𝓤 _) (λ p.
      let right : v.0.bits ≡ 3 = ap (λ (t : Block). t.bits) p.1 in omega arith)

-- many steps in one call: two runs, from entry 0 on, every second one
module _ (κs : Lfts 2) (l k : Place) where
  abbrev Run : Block → List ℕ → List ℕ → (Ran → Type 0) → Type 0
  Run block ancillary marks Wrong =
      Never run-kinds.ps run-kinds.r run-reads.Post κs (block, (lent l ancillary, (lent k marks, (0, (2, tt))))) (λ x v. Wrong (answered_run block x))

  -- entries between taken too: three bits and one more, not three more
  pub not_each_entry : Run begun (0 ∷ 0 ∷ 0 ∷ []) (0 ∷ 0 ∷ 0 ∷ []) (λ x. x.stepped.block.bits ≡ 6)
  unfolding unfolded
  not_each_entry x v wrong p = omega (arith, ap (λ (r : Ran). r.stepped.block.bits) p)

  -- the run's end for the entry after the last one used
  pub next_not_the_end : Run begun (0 ∷ 0 ∷ 0 ∷ []) (0 ∷ 0 ∷ 0 ∷ []) (λ x. x.next ≡ 3)
  unfolding unfolded
  next_not_the_end x v wrong p = omega (arith, ap (λ (r : Ran). r.next) p)

  -- a refused step's block moved on by those before it
  pub refused_not_moved : Run begun (0 ∷ 0 ∷ 0 ∷ []) (0 ∷ 0 ∷ 3 ∷ []) (λ x. x.stepped.block.bits ≡ 4)
  unfolding unfolded
  refused_not_moved x v wrong p = omega (arith, ap (λ (r : Ran). r.stepped.block.bits) p)

  -- on past the step that hands out a block
  pub not_past_a_block : Run consumer (0 ∷ 0 ∷ 8 ∷ []) (0 ∷ 0 ∷ 0 ∷ []) (λ x. x.stepped.block.bits ≡ 1)
  unfolding unfolded
  not_past_a_block x v wrong p = omega (arith, ap (λ (r : Ran). r.stepped.block.bits) p)

  -- runs of unequal length taken
  pub unequal_not_taken : Run begun (0 ∷ []) (0 ∷ 0 ∷ []) (λ x. x.stepped.handed.refusal ≡ 0)
  unfolding unfolded
  unequal_not_taken x v wrong p = omega (arith, ap (λ (r : Ran). r.stepped.handed.refusal) p)
