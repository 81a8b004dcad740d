-- Laws of what the calls answer: no two answers are told alike, and what a taken step hands out.
-- Assumes nothing.
use mathlib.Core.Bool.{true, false}
use mathlib.Core.Path.{◌≡◌, refl, sym, ◌∙◌, ap}
use Prim.Native.Nat.{◌<◌}
use native.Mathlib.Omega.{arith}
use Rattle.std.specs.Prelude.{Option, Some, None, Result, Ok, Err, is_some}
use Rattle.refusals.specs.declared.Refusal.{Refusal}
use Rattle.refusals.proofs.Laws.{number_injective, number_not_0}
use Rattle.status.specs.Answers.{number_of_fit, answered_handed, answered_step, answered_run}
use Rattle.status.specs.Run.{Ran}
use Rattle.status.specs.Step.{Handed, Stepped}
use Rattle.status.specs.declared.run.Ran as ran
use Rattle.status.specs.declared.step.Block.{Block}
use Rattle.status.specs.declared.step.Finished.{Finished}
use Rattle.status.specs.declared.step.Fit.{Fit}
use Rattle.status.specs.declared.step.Fit.TheVariants as F
use Rattle.status.specs.declared.step.Stepped as step

fit_from : (fit : Fit) → 0 < number_of_fit fit
unfolding number_of_fit
fit_from F.Differs = omega arith
fit_from F.Fits = omega arith
fit_from F.NoneCarried = omega arith

fit_injective : (fit other : Fit) → number_of_fit fit ≡ number_of_fit other → fit ≡ other
unfolding number_of_fit
fit_injective F.Differs F.Differs same = refl
fit_injective F.Differs F.Fits same = absurd (omega arith)
fit_injective F.Differs F.NoneCarried same = absurd (omega arith)
fit_injective F.Fits F.Differs same = absurd (omega arith)
fit_injective F.Fits F.Fits same = refl
fit_injective F.Fits F.NoneCarried same = absurd (omega arith)
fit_injective F.NoneCarried F.Differs same = absurd (omega arith)
fit_injective F.NoneCarried F.Fits same = absurd (omega arith)
fit_injective F.NoneCarried F.NoneCarried same = refl

module _ (handed : Option Finished) where
  -- a taken step is told by no refusal, and by an answer just where it hands out a block
  pub handed_taken : (answered_handed (Ok handed)).refusal ≡ 0
  handed_taken = elim handed as (λ h. (answered_handed (Ok h)).refusal ≡ 0) [ Some _ ↦ refl | None ↦ refl ]

  pub handed_some : is_some handed ≡ true → (answered_handed (Ok handed)).answer ≡ 0 → ⊥
  handed_some =
      elim handed as (λ h. is_some h ≡ true → (answered_handed (Ok h)).answer ≡ 0 → ⊥)
      [ Some finished ↦ λ _ e. omega (arith, fit_from finished.fit, e) | None ↦ λ some _. cc ]

  pub handed_none : is_some handed ≡ false → (answered_handed (Ok handed)).answer ≡ 0
  handed_none =
      elim handed as (λ h. is_some h ≡ false → (answered_handed (Ok h)).answer ≡ 0) [ Some _ ↦ λ none. cc | None ↦ λ _. refl ]

-- no two answers are told alike
pub handed_injective : (one other : Result (Option Finished) Refusal) → answered_handed one ≡ answered_handed other → one ≡ other
handed_injective (Ok (Some f)) (Ok (Some g)) same =
    ap (λ (x : Finished). Ok (Some x))
    (λ i. record { fit = fit_injective f.fit g.fit (ap (λ (h : Handed). h.answer) same) i; octets = (same i).octets })
handed_injective (Ok (Some f)) (Ok None) same = absurd (omega (arith, fit_from f.fit, ap (λ (h : Handed). h.answer) same))
handed_injective (Ok (Some f)) (Err e) same = absurd (number_not_0 e (sym (ap (λ (h : Handed). h.refusal) same)))
handed_injective (Ok None) (Ok (Some g)) same = absurd (omega (arith, fit_from g.fit, ap (λ (h : Handed). h.answer) same))
handed_injective (Ok None) (Ok None) same = refl
handed_injective (Ok None) (Err e) same = absurd (number_not_0 e (sym (ap (λ (h : Handed). h.refusal) same)))
handed_injective (Err e) (Ok handed) same = absurd (number_not_0 e (ap (λ (h : Handed). h.refusal) same ∙ handed_taken handed))
handed_injective (Err e) (Err f) same = ap Err (number_injective (ap (λ (h : Handed). h.refusal) same))

same_handed : (one other : Option Finished) → answered_handed (Ok one) ≡ answered_handed (Ok other) → one ≡ other
same_handed one other same = let e = handed_injective (Ok one) (Ok other) same in cc

module _ (block : Block) where
  same_step : (one other : step.Stepped) → answered_step block (Ok one) ≡ answered_step block (Ok other) → one ≡ other
  same_step s t same =
      λ i. record { block = (same i).block; handed = same_handed s.handed t.handed (ap (λ (x : Stepped). x.handed) same) i }

  pub step_injective : (one other : Result step.Stepped Refusal) → answered_step block one ≡ answered_step block other → one ≡ other
  step_injective (Ok s) (Ok t) same = ap Ok (same_step s t same)
  step_injective (Ok s) (Err e) same = absurd (number_not_0 e (sym (ap (λ (x : Stepped). x.handed.refusal) same) ∙ handed_taken s.handed))
  step_injective (Err e) (Ok t) same = absurd (number_not_0 e (ap (λ (x : Stepped). x.handed.refusal) same ∙ handed_taken t.handed))
  step_injective (Err e) (Err f) same = ap Err (number_injective (ap (λ (x : Stepped). x.handed.refusal) same))

  pub run_injective : (one other : Result ran.Ran Refusal) → answered_run block one ≡ answered_run block other → one ≡ other
  run_injective (Ok r) (Ok s) same =
      λ i. Ok (record { stepped = same_step r.stepped s.stepped (ap (λ (x : Ran). x.stepped) same) i; next = (same i).next })
  run_injective (Ok r) (Err e) same = absurd (number_not_0 e (sym (ap (λ (x : Ran). x.stepped.handed.refusal) same) ∙ handed_taken r.stepped.handed))
  run_injective (Err e) (Ok s) same = absurd (number_not_0 e (ap (λ (x : Ran). x.stepped.handed.refusal) same ∙ handed_taken s.stepped.handed))
  run_injective (Err e) (Err f) same = ap Err (number_injective (ap (λ (x : Ran). x.stepped.handed.refusal) same))
