-- `cell_log::read_record` meets its contract: a law for each return.
-- Assumes nothing.
use mathlib.Core.Path.{sym}
use native.Mathlib.Omega.{arith}
use Rattle.refusals.specs.Refusals.{number_of}
use Rattle.cell_log.proofs.Places.{record_end, record_11, record_12, record_cell}
use Rattle.cell_log.proofs.read_record.Goals as goal

pub returns-then-log-place : goal.returns-then-log-place
returns-then-log-place c = sym (record_end _ _ c.if-log-place.true)

pub returns-then-indication-gt1 : goal.returns-then-indication-gt1
unfolding number_of
returns-then-indication-gt1 c = sym (record_11 _ _ (omega arith) c.if-indication-gt1.true)

pub returns-then-log-place-lt49 : goal.returns-then-log-place-lt49
unfolding number_of
returns-then-log-place-lt49 c = sym (record_12 _ _ (omega arith) c.if-indication-gt1.false (omega arith))

pub returns : goal.returns
returns c = sym (record_cell _ _ c.if-indication-gt1.false (omega arith))
