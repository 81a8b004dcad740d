-- `status::run::steps` meets its contract. The loop: the steps from here on give the same. The measure is what is left of the run.
-- Assumes nothing.
use mathlib.Core.Path.{◌≡◌, refl, sym, ◌∙◌, ap}
use Prim.Native.Nat.{ℕ, ◌+◌}
use native.Mathlib.Omega.{arith}
use lib.ListN.{length}
use Rattle.refusals.proofs.Laws.{number_not_0}
use Rattle.std.specs.Prelude.{Ok}
use Rattle.std.proofs.lemmas.Result.{err_from_is_err_and}
use Rattle.status.specs.Answers.{answered_step}
use Rattle.status.specs.Run.{ran_from, as_whole, cut_to64}
use Rattle.status.specs.Step.{Stepped, unfinished}
use Rattle.status.proofs.AnswersLaws.{handed_taken, handed_some, handed_none}
use Rattle.status.proofs.Eights.{eight_on, eight_hands}
use Rattle.status.proofs.Running.{whole_done, rest_ends, step_refuses, step_hands, step_goes_on, cut_min, cut_to}
use Rattle.status.proofs.run.steps.Goals as goal

pub returns-then-now : goal.returns-then-now
returns-then-now c = let eights = c.in-Some.ensures in
    let s = c.span_of-span.ensures (omega (arith, eights.there, eights.spans)) in
    let e = c.with_eight-now.ensures in
    ap (λ (t : Stepped). record { stepped = t; next = c.loop-at.at + (c.span_of-span.result + c.args.on) }) (c.finished_with.ensures c.args.block)
    ∙ whole_done c.args.block _ _ refl (omega (arith, s.0, s.1))
    ∙ sym (c.loop-at.invariant.1
    ∙ ap (as_whole c.args.block)
    (eight_hands c.args.on _ c.args.marks.now c.requires.0 c.loop-at.now c.with_eight-now.result _ _ _ eights e.1 e.2 e.0 c.if-now.true))

pub loop-at-preserved-else-now : goal.loop-at-preserved-else-now
loop-at-preserved-else-now c = let eights = c.in-Some.ensures in
    let s = c.span_of-span.ensures (omega (arith, eights.there, eights.spans)) in
    let e = c.with_eight-now.ensures in (
      omega (arith, s.0, s.1),
      c.loop-at.invariant.1
          ∙ ap (as_whole c.args.block)
          (eight_on c.args.on _ c.args.marks.now c.requires.0 c.loop-at.now c.with_eight-now.result _ _ _ eights e.1 e.2 e.0 c.if-now.false),
    )

pub returns-in_err-stepped : goal.returns-in_err-stepped
returns-in_err-stepped c = let p = err_from_is_err_and c.from_residual.result c.from_residual.ensures.1 in
    rw (p.1, p.2) (step_refuses c.args.block c.args.on c.args.ancillary.now c.args.marks.now c.requires.0 c.loop-at.now c.loop-at.at
    c.loop-at-test.true c.in_err-stepped.ensures (number_not_0 _)
    ∙ sym c.loop-at.invariant.1)

pub returns-then-is_some : goal.returns-then-is_some
returns-then-is_some c = let handed = c.in_ok-stepped.stepped.handed in
    ap (λ (n : ℕ). record { stepped = answered_step c.loop-at.now (Ok c.in_ok-stepped.stepped); next = n }) (c.saturating_add-at.ensures ∙ cut_min _)
    ∙ step_hands c.args.block c.args.on c.args.ancillary.now c.args.marks.now c.requires.0 c.loop-at.now c.loop-at.at
    c.loop-at-test.true c.in_ok-stepped.ensures (handed_taken handed) (handed_some handed (sym c.is_some.ensures ∙ c.if-is_some.true))
    ∙ sym c.loop-at.invariant.1

pub loop-at-preserved : goal.loop-at-preserved
loop-at-preserved c = let handed = c.in_ok-stepped.stepped.handed in
    let cut : c.saturating_add-at.result ≡ cut_to64 (c.loop-at.at + c.args.on) = c.saturating_add-at.ensures ∙ cut_min _ in (
      cut_to (c.loop-at.at + c.args.on) cut,
      c.loop-at.invariant.1
          ∙ step_goes_on c.args.block c.args.on c.args.ancillary.now c.args.marks.now c.requires.0 c.loop-at.now c.loop-at.at
          c.loop-at-test.true c.in_ok-stepped.ensures (handed_taken handed) (handed_none handed (sym c.is_some.ensures ∙ c.if-is_some.false)) (omega arith)
          ∙ ap (λ (n : ℕ). as_whole c.args.block (ran_from c.args.on c.args.ancillary.now c.args.marks.now (length c.args.ancillary.now) c.in_ok-stepped.stepped.block n))
          (sym cut),
    )

pub returns : goal.returns
returns c = ap (λ (t : Stepped). record { stepped = t; next = c.loop-at.at }) c.unfinished_with.ensures
    ∙ whole_done c.args.block (unfinished 0 c.loop-at.now) c.loop-at.at refl c.loop-at.invariant.0
    ∙ sym (c.loop-at.invariant.1
    ∙ ap (as_whole c.args.block) (rest_ends c.args.on c.args.ancillary.now c.args.marks.now c.requires.0 c.loop-at.now c.loop-at.at c.loop-at-test.false))
