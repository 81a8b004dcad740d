-- `glance::sounds` meets its contract: a law for each return.
-- Assumes nothing.
use mathlib.Core.Path.{refl}
use native.Mathlib.Omega.{arith}
use Rattle.refusals.proofs.Laws.{number_not_0}
use Rattle.formats.proofs.Laws.{limits_of}
use Rattle.glance.proofs.Laws.{refused_silent, short_silent, sounds_said}
use Rattle.glance.proofs.Quiet.{quiet_silent}
use Rattle.glance.proofs.sounds.Goals as goal
use Rattle.glance.proofs.sounds.Goals.{then-cell-ne48-via-then-cell-ne48, then-cell-ne48-via-else-cell-ne48+then-hushed}

pub returns-then-cell-ne48 : goal.returns-then-cell-ne48
returns-then-cell-ne48 c =
    elim c.then-cell-ne48.branch [
      | then-cell-ne48-via-then-cell-ne48 w ↦ short_silent _ _ w.if-cell-ne48.true
      | then-cell-ne48-via-else-cell-ne48+then-hushed w ↦ quiet_silent _ _ w.if-cell-ne48.false (w.hushed.ensures w.if-hushed.true)
    ]

pub hushed-requires : goal.hushed-requires
hushed-requires c = c.if-cell-ne48.false

pub returns-in_default : goal.returns-in_default
returns-in_default c = refused_silent _ _ c.in_default.ensures (number_not_0 _)

pub overflow_mul-used : goal.overflow_mul-used
overflow_mul-used c =
    let limits = limits_of _ _ _ c.in-Ok.ensures refl in
    omega (arith, limits.used_to)

pub among-requires : goal.among-requires
among-requires c =
    let limits = limits_of _ _ _ c.in-Ok.ensures refl in
    (limits.sound, c.if-cell-ne48.false, limits.used_in_lem)

pub returns : goal.returns
returns c = sounds_said _ _ c.in-Ok.ensures refl c.if-cell-ne48.false c.among.ensures
