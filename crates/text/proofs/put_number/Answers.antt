-- `text::put_number` meets its contract. The loop stores the digits from the last one on; the measure is what is left of the number.
-- Assumes nothing.
use mathlib.Core.List.{List}
use mathlib.Core.Path.{◌≡◌, refl, ◌∙◌, ap}
use Prim.Native.Nat.{ℕ, ◌-◌}
use native.Mathlib.Omega.{arith}
use lib.ListN.{length, drop, set, length-set, length-drop}
use lib.Seq.{take_all}
use Rattle.text.proofs.Laws.{puts_same, number_one, digits_start, digits_ahead, digits_turn, digits_end}
use Rattle.text.proofs.put_number.Goals as goal

pub returns-then-n-lt10 : goal.returns-then-n-lt10
returns-then-n-lt10 c = number_one c.args.n c.if-n-lt10.true c.digit.ensures
    c.put_one.ensures

pub loop-left-init : goal.loop-left-init
loop-left-init c = digits_start c.args.n _ (omega arith) refl

pub bounds-digits-first : goal.bounds-digits-first
bounds-digits-first c = c.loop-left.invariant.within

pub overflow_sub-first : goal.overflow_sub-first
overflow_sub-first c = digits_ahead _ c.loop-left.invariant c.loop-left-test.true

pub loop-left-smaller : goal.loop-left-smaller
loop-left-smaller c = omega (arith, c.loop-left-test.true)

pub loop-left-preserved : goal.loop-left-preserved
loop-left-preserved c = digits_turn _ c.loop-left.invariant c.loop-left-test.true c.digit-in-loop-left.ensures

pub bounds-digits-first-2 : goal.bounds-digits-first-2
bounds-digits-first-2 c = c.loop-left.invariant.within

pub slice_bounds-put_all-count : goal.slice_bounds-put_all-count
slice_bounds-put_all-count c = omega (arith, c.loop-left.invariant.within)

pub slice_bounds-put_all-start : goal.slice_bounds-put_all-start
slice_bounds-put_all-start c = omega (arith, c.loop-left.invariant.within)

pub slice_bounds-put_all-end : goal.slice_bounds-put_all-end
slice_bounds-put_all-end c = omega (arith, length-set c.loop-left.digits c.loop-left.first c.digit-2.result, c.loop-left.invariant.sized)

pub returns : goal.returns
returns c = let stored : List ℕ = set c.loop-left.digits c.loop-left.first c.digit-2.result in
    let size : length (drop c.loop-left.first stored) ≡ 20 - c.loop-left.first =
    length-drop c.loop-left.first stored
    ∙ ap (λ (n : ℕ). n - c.loop-left.first)
    (length-set c.loop-left.digits c.loop-left.first c.digit-2.result ∙ c.loop-left.invariant.sized) in
    puts_same
    (take_all (20 - c.loop-left.first) (drop c.loop-left.first stored) (omega (arith, size))
    ∙ digits_end c.loop-left.first c.loop-left.invariant (omega (arith, c.loop-left-test.false)) c.digit-2.ensures)
    c.put_all.ensures
