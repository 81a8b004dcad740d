-- `saving::put` meets its contract.
-- Assumes nothing.
use native.Mathlib.Omega.{arith}
use Rattle.saving.proofs.Walks.{put_sound, put_refused}
use Rattle.saving.proofs.put.Goals as goal

pub overflow_mul-here : goal.overflow_mul-here
overflow_mul-here c = omega (arith, c.requires.sound c.if-refusal-eq0.true)

pub overflow_add-here : goal.overflow_add-here
overflow_add-here c = omega (arith, c.requires.sound c.if-refusal-eq0.true)

pub returns-then-refusal-eq0 : goal.returns-then-refusal-eq0
returns-then-refusal-eq0 c = put_sound c.requires c.if-refusal-eq0.true c.write_record.ensures

pub overflow_mul-here-2 : goal.overflow_mul-here-2
overflow_mul-here-2 c = omega
    (arith, c.requires.refused c.if-refusal-eq0.false)

pub put_two-requires : goal.put_two-requires
put_two-requires c = c.requires.refused c.if-refusal-eq0.false

pub returns : goal.returns
returns c = put_refused c.if-refusal-eq0.false c.put_two.ensures
