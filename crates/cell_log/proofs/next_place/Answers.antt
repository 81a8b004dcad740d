-- `cell_log::next_place` meets its contract.
-- Assumes nothing.
use mathlib.Core.Path.{refl}
use native.Mathlib.Omega.{arith}
use Rattle.cell_log.proofs.Answered.{answered_some, answered_none}
use Rattle.cell_log.proofs.Places.{place_past, place_stays}
use Rattle.cell_log.proofs.next_place.Goals as goal

pub returns-in-Ok-Some : goal.returns-in-Ok-Some
returns-in-Ok-Some c = place_past _ _ (answered_some _ c.in-Ok-Some.field-0-is c.in-Ok-Some.ensures) refl

pub returns-in-Ok-None : goal.returns-in-Ok-None
returns-in-Ok-None c = place_stays _ _ (answered_none _ c.in-Ok-None.field-0-is c.in-Ok-None.ensures) (λ e. omega arith)

pub returns-in-Err : goal.returns-in-Err
returns-in-Err c = place_stays _ _ c.in-Err.ensures (λ e. omega arith)
