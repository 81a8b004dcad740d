-- `figures::stretch::with_refused` meets its contract.
-- Assumes nothing.
use native.Mathlib.Omega.{arith}
use Rattle.figures.proofs.Passed.{refused_more}
use Rattle.figures.proofs.stretch.with_refused.Goals as goal

pub overflow_add-result : goal.overflow_add-result
overflow_add-result c = omega (arith, c.one_if.ensures.1, c.requires.refused8)

pub overflow_add-result-2 : goal.overflow_add-result-2
overflow_add-result-2 c = omega (arith, c.one_if-2.ensures.1, c.requires.refused9)

pub overflow_add-result-3 : goal.overflow_add-result-3
overflow_add-result-3 c = omega (arith, c.one_if-3.ensures.1, c.requires.refused15)

pub overflow_add-result-4 : goal.overflow_add-result-4
overflow_add-result-4 c = omega (arith, c.one_if-4.ensures.1, c.requires.refused20)

pub returns : goal.returns
returns c = refused_more c.args.c c.args.refusal c.one_if.ensures.0 c.one_if-2.ensures.0 c.one_if-3.ensures.0
    c.one_if-4.ensures.0
