-- `units::judge::checked_read` meets its contract: each way out by the check that it goes by.
-- Assumes nothing.
use mathlib.Core.Bool.{false}
use mathlib.Core.Path.{◌≡◌, refl, sym, ◌∙◌}
use native.Mathlib.Omega.{arith}
use Rattle.formats.specs.Settings.{settled_as}
use Rattle.formats.specs.Sound.{Limits}
use Rattle.refusals.specs.Refusals.{number_of, refused_by}
use Rattle.units.specs.Units.{frame_size, unit_refused}
use Rattle.units.proofs.Laws.{frame_some, frame_small, read_limits, reads_5, reads_26, reads_28, reads_0}
use Rattle.units.proofs.judge.checked_read.Goals as goal
use Rattle.units.proofs.judge.checked_read.Goals.{Else-unit_refused, Start}

-- the way back from the checks that passed
abbrev start : Else-unit_refused → Start
start c = (goal.at.Else-unit_refused c).Start

-- what each of them told
bounds : (c : Start) → Limits (settled_as c.args.set)
bounds c =
    let a = c.args in
    read_limits a.octet a.channels a.unit a.samples a.ancillary c.requires refl

fifth : (c : Else-unit_refused)
    → false
    ≡ unit_refused (frame_size (start c).args.set.format (start c).args.set.channels) (start c).args.unit (start c).args.samples
    (start c).args.ancillary
fifth c = sym c.if-unit_refused.false ∙ c.unit_refused.ensures

pub overflow_mul-set : goal.overflow_mul-set
overflow_mul-set c = omega (arith, frame_small (bounds (goal.at.overflow_mul-set c).Start))

pub unit_refused-requires : goal.unit_refused-requires
unit_refused-requires c = frame_some (bounds (goal.at.unit_refused-requires c).Start)

pub returns-then-unit_refused : goal.returns-then-unit_refused
unfolding refused_by number_of
returns-then-unit_refused c = let a = c.args in
    reads_5 a.octet a.channels a.unit a.samples a.ancillary c.requires refl (sym c.if-unit_refused.true ∙ c.unit_refused.ensures)

pub returns-then-format-ne0 : goal.returns-then-format-ne0
unfolding refused_by number_of
returns-then-format-ne0 c = let s = start (goal.at.returns-then-format-ne0 c).Else-unit_refused in
    let a = s.args in
    reads_26 a.octet a.channels a.unit a.samples a.ancillary s.requires refl (fifth (goal.at.returns-then-format-ne0 c).Else-unit_refused) c.if-format-ne0.true

pub nonzero_div-unit : goal.nonzero_div-unit
nonzero_div-unit c = (bounds (start (goal.at.nonzero_div-unit c).Else-unit_refused)).sound.width_from

pub returns-then-samples-unit : goal.returns-then-samples-unit
unfolding refused_by number_of
returns-then-samples-unit c = let s = start (goal.at.returns-then-samples-unit c).Else-unit_refused in
    let a = s.args in
    reads_28 a.octet a.channels a.unit a.samples a.ancillary s.requires
    refl (fifth (goal.at.returns-then-samples-unit c).Else-unit_refused) c.if-format-ne0.false c.if-samples-unit.true

pub returns : goal.returns
unfolding refused_by number_of
returns c = let s = start (goal.at.returns c).Else-unit_refused in
    let a = s.args in
    reads_0 a.octet a.channels a.unit a.samples a.ancillary s.requires
    refl (fifth (goal.at.returns c).Else-unit_refused) c.if-format-ne0.false c.if-samples-unit.false
