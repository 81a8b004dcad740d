-- `figures::stretch::each` meets its contract. The loop goes from record to record.
-- Assumes nothing.
use mathlib.Core.Path.{◌≡◌}
use Prim.Native.Nat.{◌+◌, ◌*◌, ◌-◌}
use native.Mathlib.Omega.{arith}
use Rattle.figures.proofs.Laws.{counts_begun}
use Rattle.figures.proofs.Passed.{record_fits, walking_start, walking_few, walking_end, walking_here, walking_turn}
use Rattle.figures.proofs.stretch.each.Goals as goal

pub loop-i-init : goal.loop-i-init
loop-i-init c =
    let at : c.args.place + 49 * 0 ≡ c.args.place = omega arith in
    let left : c.args.records - 0 ≡ c.args.records = omega arith in
    rw (at, left) (walking_start c.requires.0 c.requires.1 (counts_begun c.default-counts.ensures))

pub overflow_mul-i : goal.overflow_mul-i
overflow_mul-i c =
    let here = walking_here c.loop-i.invariant (omega (arith, c.loop-i-test.true)) in
    omega (arith, record_fits c.args.octets.now (c.args.place + 49 * c.loop-i.i) here)

pub overflow_add-place : goal.overflow_add-place
overflow_add-place c =
    let here = walking_here c.loop-i.invariant (omega (arith, c.loop-i-test.true)) in
    omega (arith, record_fits c.args.octets.now (c.args.place + 49 * c.loop-i.i) here)

pub past-noted-requires : goal.past-noted-requires
past-noted-requires c =
    let g = c.loop-i.invariant in
    (g.settles, walking_few g c.requires.1 c.requires.2, walking_here g (omega (arith, c.loop-i-test.true)))

pub loop-i-preserved : goal.loop-i-preserved
loop-i-preserved c =
    let at : c.args.place + 49 * (c.loop-i.i + 1) ≡ c.args.place + 49 * c.loop-i.i + 49 = omega arith in
    let left : c.args.records - (c.loop-i.i + 1) ≡ c.args.records - c.loop-i.i - 1 = omega arith in
    rw (at, left) (walking_turn c.loop-i.invariant (omega (arith, c.loop-i-test.true)) c.past-noted.ensures)

pub returns : goal.returns
returns c = walking_end c.loop-i.invariant (omega (arith, c.loop-i-test.false))
