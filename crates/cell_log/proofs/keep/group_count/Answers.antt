-- `cell_log::keep::group_count` meets its contract.
-- Assumes nothing.
use native.Mathlib.Omega.{arith}
use Rattle.cell_log.proofs.Laws.{groups_1, groups_2, groups_3}
use Rattle.cell_log.proofs.keep.group_count.Goals as goal

pub returns-then-value-lt128 : goal.returns-then-value-lt128
returns-then-value-lt128 c = (rw (groups_1 2 _ c.if-value-lt128.true), omega arith)

pub returns-then-value-lt16384 : goal.returns-then-value-lt16384
returns-then-value-lt16384 c = (rw (groups_2 _ c.if-value-lt128.false c.if-value-lt16384.true), omega arith)

pub returns-else-value-lt16384 : goal.returns-else-value-lt16384
returns-else-value-lt16384 c = (rw (groups_3 _ c.if-value-lt16384.false (omega arith)), omega arith)
