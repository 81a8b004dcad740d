-- `cell_log::read_indication` meets its contract.
-- Assumes nothing.
use mathlib.Core.Path.{ap}
use Rattle.cell_log.specs.Answers.{Record}
use Rattle.cell_log.proofs.Answered.{answered_some, answered_none}
use Rattle.cell_log.proofs.read_indication.Goals as goal

pub returns-in-Ok-Some : goal.returns-in-Ok-Some
returns-in-Ok-Some c = ap (λ (r : Record). r.indication) (answered_some _ c.in-Ok-Some.field-0-is c.in-Ok-Some.ensures)

pub returns-in-Ok-None : goal.returns-in-Ok-None
returns-in-Ok-None c = ap (λ (r : Record). r.indication) (answered_none _ c.in-Ok-None.field-0-is c.in-Ok-None.ensures)

pub returns-in-Err : goal.returns-in-Err
returns-in-Err c = ap (λ (r : Record). r.indication) c.in-Err.ensures
