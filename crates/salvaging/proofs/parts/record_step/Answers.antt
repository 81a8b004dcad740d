-- `salvaging::parts::record_step` meets its contract.
-- Assumes nothing.
use Rattle.std.proofs.Common.{refl}
use Rattle.salvaging.proofs.Texts.{tells_sound, tells_refused}
use Rattle.salvaging.proofs.parts.record_step.Goals as goal

pub returns-then-got-eq0 : goal.returns-then-got-eq0
returns-then-got-eq0 c = tells_sound _ _ c.read_indication-indication.ensures c.read_cell-cell.ensures.0 c.judged-got.ensures
    c.after-counted.ensures c.if-got-eq0.true c.put_record.ensures

pub returns : goal.returns
returns c = tells_refused _ _ c.read_indication-indication.ensures c.read_cell-cell.ensures.0 c.judged-got.ensures
    c.after-counted.ensures c.if-got-eq0.false refl
    c.refused_line.ensures
