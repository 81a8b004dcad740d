-- `figures::told::in_turn` meets its contract.
-- Assumes nothing.
use native.Mathlib.Omega.{arith}
use Rattle.figures.proofs.Turns.{waits_sound, in_turn}
use Rattle.figures.proofs.told.in_turn.Goals as goal

pub overflow_add-state : goal.overflow_add-state
overflow_add-state c = let waits = c.waits.ensures c.if-set-ne0.true.0 in omega (arith, waits.last_to)

pub begins_with-requires : goal.begins_with-requires
begins_with-requires c = (waits_sound c.args.state c.requires.0 (c.waits.ensures c.if-set-ne0.true.0), c.requires.1)

pub returns-then-set-ne0 : goal.returns-then-set-ne0
returns-then-set-ne0 c same = let waits = c.waits.ensures c.if-set-ne0.true.0 in (
  in_turn c.args.state c.args.cell.now c.requires.0 c.requires.1 waits c.if-set-ne0.true.1 c.sequence_of.ensures
      (c.begins_with.ensures same),
  omega (arith, waits.last_to),
  waits.goes_on,
)
