-- `figures::stretch::past` meets its contract: a cell that is refused, and one that is taken.
-- Assumes nothing.
use native.Mathlib.Omega.{arith}
use Rattle.figures.proofs.Cells.{taken_limits}
use Rattle.figures.proofs.Passed.{record_fits, record_here, record_size, past_refused, past_taken}
use Rattle.figures.proofs.stretch.past.Goals as goal

pub overflow_add-start : goal.overflow_add-start
overflow_add-start c = omega (arith, record_fits c.args.octets.now c.args.at c.requires.2)

pub overflow_add-end : goal.overflow_add-end
overflow_add-end c = omega (arith, record_fits c.args.octets.now c.args.at c.requires.2)

pub slice_bounds-answer-end : goal.slice_bounds-answer-end
slice_bounds-answer-end c = omega (arith, record_fits c.args.octets.now c.args.at c.requires.2)

pub bounds-octets-at : goal.bounds-octets-at
bounds-octets-at c = omega (arith, record_fits c.args.octets.now c.args.at c.requires.2)

pub answer-got-requires : goal.answer-got-requires
answer-got-requires c = (c.requires.0, record_size c.args.octets.now c.args.at c.requires.2)

pub returns-then-got-ne0 : goal.returns-then-got-ne0
returns-then-got-ne0 c = past_refused c.args.noted (record_here c.args.octets.now c.args.at c.requires.2) c.answer-got.ensures
    c.if-got-ne0.true c.with_refused-counts.ensures

pub overflow_mul-used : goal.overflow_mul-used
overflow_mul-used c = let limits = taken_limits c.args.noted.state _ _ c.answer-got.ensures c.if-got-ne0.false c.requires.0 in
    omega (arith, limits.used_to)

pub slice_bounds-marked_1-end : goal.slice_bounds-marked_1-end
slice_bounds-marked_1-end c = omega (arith, record_fits c.args.octets.now c.args.at c.requires.2)

pub marked_1-ones-requires : goal.marked_1-ones-requires
marked_1-ones-requires c = let limits = taken_limits c.args.noted.state _ _ c.answer-got.ensures c.if-got-ne0.false c.requires.0 in
    (limits.sound, record_size c.args.octets.now c.args.at c.requires.2, limits.used_in_lem)

pub with_taken-counts-requires : goal.with_taken-counts-requires
with_taken-counts-requires c = let limits = taken_limits c.args.noted.state _ _ c.answer-got.ensures c.if-got-ne0.false c.requires.0 in
    (c.requires.1, limits.used_to, omega arith, c.marked_1-ones.ensures.1)

pub returns : goal.returns
returns c = past_taken c.args.noted (record_here c.args.octets.now c.args.at c.requires.2) c.answer-got.ensures
    c.requires.0 c.if-got-ne0.false c.marked_1-ones.ensures.0 c.with_taken-counts.ensures
