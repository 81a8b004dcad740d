-- `figures::take` meets its contract. The loop goes along the piece, past a stretch of records or by a step; the measure is what is
-- left of it.
-- Assumes nothing.
use mathlib.Core.Path.{sym, ◌∙◌, ap}
use native.Mathlib.Nat.{pos_of_ne-zero}
use native.Mathlib.Omega.{arith}
use Rattle.pieces.specs.declared.Stretch.{Stretch}
use Rattle.pieces.proofs.Stretches.{none_found}
use Rattle.figures.proofs.Walks.{going_start, going_turn, going_on, stretch_these, stretch_most, stretch_on, going_stretch, going_end}
use Rattle.figures.proofs.take.Goals as goal

pub loop-place-init : goal.loop-place-init
loop-place-init c = going_start (omega arith)

pub step-noted-requires : goal.step-noted-requires
step-noted-requires c = none_found c.at_once-most.result c.at_once-most.ensures.0
    (sym c.if-stretch-eq0.true ∙ ap (λ (f : Stretch). f.records) c.stretch_at-stretch.ensures) c.next-found.ensures

pub loop-place-smaller-then-stretch-eq0 : goal.loop-place-smaller-then-stretch-eq0
loop-place-smaller-then-stretch-eq0 c = omega (arith, going_on c.loop-place.invariant c.loop-place-test.true c.next-found.ensures)

pub loop-place-preserved-then-stretch-eq0 : goal.loop-place-preserved-then-stretch-eq0
loop-place-preserved-then-stretch-eq0 c = let elsewhere =
    none_found c.at_once-most.result c.at_once-most.ensures.0
    (sym c.if-stretch-eq0.true ∙ ap (λ (f : Stretch). f.records) c.stretch_at-stretch.ensures) c.next-found.ensures in
    going_turn c.loop-place.invariant c.loop-place-test.true c.next-found.ensures elsewhere c.step-noted.ensures

pub counted-noted-requires : goal.counted-noted-requires
counted-noted-requires c = let most = c.at_once-most.result in
    let g = c.loop-place.invariant in
    let is = c.stretch_at-stretch.ensures in
    (stretch_these most g is, pos_of_ne-zero c.if-stretch-eq0.false, omega (arith, stretch_most most g is, c.at_once-most.ensures.1))

pub loop-place-smaller : goal.loop-place-smaller
loop-place-smaller c = let on = stretch_on c.at_once-most.result c.loop-place.invariant c.stretch_at-stretch.ensures c.if-stretch-eq0.false in
    omega (arith, on, c.loop-place-test.true)

pub loop-place-preserved : goal.loop-place-preserved
loop-place-preserved c = going_stretch c.at_once-most.result c.loop-place.invariant c.stretch_at-stretch.ensures
    c.counted-noted.ensures

pub returns : goal.returns
returns c = going_end c.loop-place.invariant c.loop-place-test.false
