-- Wrong steps: the contract rules them out. Stated over the contract itself.
-- Assumes nothing.
use mathlib.Core.Bool.{true≢false}
use mathlib.Core.List.{List, [], ◌∷◌}
use mathlib.Core.Path.{◌≡◌, refl, sym, ap}
use Prim.Native.Nat.{ℕ}
use native.Mathlib.Omega.{arith}
use contract.Lifetimes.{Lfts}
use lib.ListN.{get_or}
use Rattle.std.proofs.Common.{Ok, Err}
use Rattle.refusals.specs.Refusals.{refused_by}
use Rattle.refusals.proofs.Laws.{number_not_0}
use Rattle.runs.proofs.Wrong.{Never, Place, lent_mut}
use Rattle.numbers.specs.Numbers.{difference_of}
use Rattle.slips.specs.Slips.{starts_of, behind_of}
use Rattle.slips.specs.Watch.{
  Stepped,
  is_too_large,
  some_set,
  unlike,
  watch_refused,
  report_refused,
  may_after,
  agrees_with,
  slipped,
  sure_step,
  new_step,
  taken_step,
  step_of,
}
use Rattle.slips.specs.Known.{stepped_of, stepped_from}
use Rattle.slips.specs.declared.Watch as Code
use Rattle.slips.specs.declared.Watch.TheVariants.{InStep, OutOfStep}
use Rattle.slips.specs.declared.Slip.TheVariants.{Missing}
use Rattle.slips.proofs.WatchTryFromArrayU87.try_from.Kinds as read-kinds
use Rattle.slips.proofs.WatchTryFromArrayU87.try_from.Reads as read-reads
use Rattle.slips.proofs.Slip.octets.Kinds as slip-octets-kinds
use Rattle.slips.proofs.Slip.octets.Reads as slip-octets-reads
use Rattle.slips.proofs.Watch.octets.Kinds as octets-kinds
use Rattle.slips.proofs.Watch.octets.Reads as octets-reads
use Rattle.slips.proofs.step.Kinds as from-kinds
use Rattle.slips.proofs.step.Reads as from-reads
use Rattle.slips.proofs.Watch.step.Kinds as step-kinds
use Rattle.slips.proofs.Watch.step.Reads as step-reads

-- every definition on the way down to the numbers
unfoldable pub unfolded : Unit {0}
unfolding difference_of starts_of behind_of is_too_large some_set unlike watch_refused report_refused may_after agrees_with slipped sure_step new_step
    taken_step step_of
unfolded = tt

module _ (κs : Lfts 1) (s : Place) where
  abbrev Stepping : Code.Watch → ℕ → ℕ → ℕ → (Stepped → Type 0) → Type 0
  Stepping w missing number second Wrong =
      Never step-kinds.ps step-kinds.r step-reads.Post κs (lent_mut s w, (missing, (number, (second, tt)))) (λ x v. Wrong (stepped_of x v.0))

  -- 64 cells were lost behind number 3, and the second number went up by eight: a step that tells it at once, before a second cell
  -- agrees
  pub slip_not_told_at_once : Stepping (InStep 3 0) 0 4 8 (λ x. x.what ≡ 1)
  unfolding unfolded
  slip_not_told_at_once x v wrong p = let right : (stepped_of x v.0).what ≡ 3 = ap (λ (s : Stepped). s.what) p in omega arith

  -- the next cell agrees: a step that tells nothing
  pub slip_not_kept_back : Stepping (OutOfStep 4 0 0 8) 0 5 8 (λ x. x.cells ≡ 0)
  unfolding unfolded
  slip_not_kept_back x v wrong p = let right : (stepped_of x v.0).cells ≡ 64 = ap (λ (s : Stepped). s.cells) p in omega arith

  -- one that counts the block starts up to this cell too, where number 8 comes between: the old `may` is meant
  pub new_may_not_taken : Stepping (OutOfStep 7 0 0 3) 0 8 4 (λ x. x.cells ≡ 16)
  unfolding unfolded
  new_may_not_taken x v wrong p = let right : (stepped_of x v.0).cells ≡ 32 = ap (λ (s : Stepped). s.cells) p in omega arith

  -- one false second number alone told as a slip
  pub alone_no_slip : Stepping (OutOfStep 4 0 0 8) 0 5 0 (λ x. x.what ≡ 1)
  unfolding unfolded
  alone_no_slip x v wrong p = let right : (stepped_of x v.0).what ≡ 2 = ap (λ (s : Stepped). s.what) p in omega arith

  -- a cell in step refused, by whatever number
  pub step_not_always_refused : Stepping (InStep 3 0) 0 4 0 (λ x. x.refusal ≡ 0 → ⊥)
  unfolding unfolded
  step_not_always_refused x v wrong p = wrong (ap (λ (s : Stepped). s.refusal) p)

  -- 31 before 4
  pub report_not_before_number : Stepping (InStep 16 0) 1 4 0 (λ x. x.refusal ≡ 31)
  unfolding unfolded
  report_not_before_number x v wrong p = let right : (stepped_of x v.0).refusal ≡ 4 = ap (λ (s : Stepped). s.refusal) p in omega arith

  -- a report with another number of missing cells than the numbers tell, taken
  pub missing_not_taken_unseen : Stepping (InStep 3 0) 1 4 0 (λ x. x.refusal ≡ 0)
  unfolding unfolded
  missing_not_taken_unseen x v wrong p = let right : (stepped_of x v.0).refusal ≡ 31 = ap (λ (s : Stepped). s.refusal) p in omega arith

module _ (κs : Lfts 0) where
  abbrev Reading : List ℕ → (ℕ → Type 0) → Type 0
  Reading octets Wrong = Never read-kinds.ps read-kinds.r read-reads.Post κs (octets, tt) (λ x v. Wrong (refused_by x))

  -- all zeros refused, by whatever number
  pub reading_not_always_refused : Reading (0 ∷ 0 ∷ 0 ∷ 0 ∷ 0 ∷ 0 ∷ 0 ∷ []) (λ refusal. refusal ≡ 0 → ⊥)
  unfolding unfolded refused_by
  reading_not_always_refused (Ok w) v wrong p = wrong refl
  reading_not_always_refused (Err e) v wrong p = true≢false (sym p.1)

  -- a yes that is 2 taken
  pub two_no_yes : Reading (2 ∷ 3 ∷ 1 ∷ 0 ∷ 0 ∷ 0 ∷ 0 ∷ []) (λ refusal. refusal ≡ 0)
  unfolding unfolded refused_by
  two_no_yes (Ok w) v wrong p = true≢false p.1
  two_no_yes (Err e) v wrong p = number_not_0 e wrong

  -- 31 before 4: a yes that is 2
  pub report_not_before_watch :
      Never from-kinds.ps from-kinds.r from-reads.Post κs (2 ∷ 3 ∷ 1 ∷ 0 ∷ 0 ∷ 0 ∷ 0 ∷ [], (1, (4, (0, tt))))
      (λ x v. (stepped_from (2 ∷ 3 ∷ 1 ∷ 0 ∷ 0 ∷ 0 ∷ 0 ∷ []) x).refusal ≡ 31)
  unfolding unfolded
  report_not_before_watch x v wrong p =
      let right : (stepped_from (2 ∷ 3 ∷ 1 ∷ 0 ∷ 0 ∷ 0 ∷ 0 ∷ []) x).refusal ≡ 4 = ap (λ (s : Stepped). s.refusal) p.0 in omega arith

  -- the second cell agrees, and nothing is told
  pub slip_in_octets_not_kept_back :
      Never from-kinds.ps from-kinds.r from-reads.Post κs (1 ∷ 4 ∷ 1 ∷ 0 ∷ 0 ∷ 1 ∷ 8 ∷ [], (0, (5, (8, tt))))
      (λ x v. (stepped_from (1 ∷ 4 ∷ 1 ∷ 0 ∷ 0 ∷ 1 ∷ 8 ∷ []) x).cells ≡ 0)
  unfolding unfolded
  slip_in_octets_not_kept_back x v wrong p =
      let right : (stepped_from (1 ∷ 4 ∷ 1 ∷ 0 ∷ 0 ∷ 1 ∷ 8 ∷ []) x).cells ≡ 64 = ap (λ (s : Stepped). s.cells) p.0 in omega arith

  -- a watch in step kept as one of no cell, and as one that isn't sure
  abbrev Kept : (List ℕ → Type 0) → Type 0
  Kept Wrong = Never octets-kinds.ps octets-kinds.r octets-reads.Post κs (InStep 3 5, tt) (λ x v. Wrong x)

  pub watch_not_kept_as_new : Kept (λ x. get_or x 0 0 ≡ 0)
  watch_not_kept_as_new x v wrong p = let right : get_or x 0 0 ≡ 1 = ap (λ (l : List ℕ). get_or l 0 0) p in omega arith

  pub watch_kept_as_sure : Kept (λ x. get_or x 2 0 ≡ 0)
  watch_kept_as_sure x v wrong p = let right : get_or x 2 0 ≡ 1 = ap (λ (l : List ℕ). get_or l 2 0) p in omega arith

  -- 64 cells missing, told as nothing, and without their number
  abbrev Tells : (List ℕ → Type 0) → Type 0
  Tells Wrong = Never slip-octets-kinds.ps slip-octets-kinds.r slip-octets-reads.Post κs (Missing 64, tt) (λ x v. Wrong x)

  pub missing_not_nothing : Tells (λ x. get_or x 0 0 ≡ 0)
  missing_not_nothing x v wrong p = let right : get_or x 0 0 ≡ 1 = ap (λ (l : List ℕ). get_or l 0 0) p in omega arith

  pub missing_not_uncounted : Tells (λ x. get_or x 1 0 ≡ 0)
  missing_not_uncounted x v wrong p = let right : get_or x 1 0 ≡ 64 = ap (λ (l : List ℕ). get_or l 1 0) p in omega arith
