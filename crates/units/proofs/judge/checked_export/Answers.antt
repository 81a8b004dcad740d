-- `units::judge::checked_export` meets its contract: each way out by the check that it goes by.
-- Assumes nothing.
use mathlib.Core.Bool.{false}
use mathlib.Core.Path.{◌≡◌, refl, sym, ◌∙◌}
use native.Mathlib.Omega.{arith}
use lib.ListN.{length}
use Rattle.formats.specs.Settings.{settled_as}
use Rattle.formats.specs.Sound.{Limits}
use Rattle.refusals.specs.Refusals.{number_of, refused_by}
use Rattle.units.specs.Units.{runs_refused, values_refused}
use Rattle.units.proofs.Laws.{runs_are, frame_small, subframes_fit, export_limits, exports_5, exports_6, exports_26, exports_27, exports_28, exports_0}
use Rattle.units.proofs.judge.checked_export.Goals as goal
use Rattle.units.proofs.judge.checked_export.Goals.{Else-format-ne0, Else-runs_refused, Else-size-set, Else-values_refused, Start}

-- the way back from the checks that passed
abbrev from_2 : Else-runs_refused → Start
from_2 c = (goal.at.Else-runs_refused c).Start

abbrev from_3 : Else-values_refused → Else-runs_refused
from_3 c = (goal.at.Else-values_refused c).Else-runs_refused

abbrev from_4 : Else-format-ne0 → Else-values_refused
from_4 c = (goal.at.Else-format-ne0 c).Else-values_refused

abbrev from_5 : Else-size-set → Else-format-ne0
from_5 c = (goal.at.Else-size-set c).Else-format-ne0

abbrev start : Else-values_refused → Start
start c = from_2 (from_3 c)

-- what each of them told
bounds : (s : Start) → Limits (settled_as s.args.set)
bounds s =
    let a = s.args in
    export_limits a.octet a.channels a.size a.samples.now a.ancillary.now a.room s.requires refl

even : (c : Else-runs_refused)
    → false
    ≡ runs_refused (from_2 c).args.set.channels (length (from_2 c).args.samples.now)
    (length (from_2 c).args.ancillary.now)
even c = sym c.if-runs_refused.false ∙ c.runs_refused.ensures

small : (c : Else-values_refused)
    → false ≡ values_refused (start c).args.set.format (start c).args.samples.now (start c).args.ancillary.now
small c = sym c.if-values_refused.false ∙ c.values_refused.ensures

pub runs_refused-requires : goal.runs_refused-requires
runs_refused-requires c = (bounds (goal.at.runs_refused-requires c).Start).channels_from

pub returns-then-runs_refused : goal.returns-then-runs_refused
unfolding refused_by number_of
returns-then-runs_refused c = let s = (goal.at.returns-then-runs_refused c).Start in
    let a = s.args in
    exports_5 a.octet a.channels a.size a.samples.now a.ancillary.now a.room s.requires refl
    (sym c.if-runs_refused.true ∙ c.runs_refused.ensures)

pub values_refused-requires : goal.values_refused-requires
values_refused-requires c = let a = (from_2 (goal.at.values_refused-requires c).Else-runs_refused).args in
    let limits = bounds (from_2 (goal.at.values_refused-requires c).Else-runs_refused) in
    let long = runs_are a.set.channels (length a.samples.now) (length a.ancillary.now) (sym (even (goal.at.values_refused-requires c).Else-runs_refused)) in
    (limits.sample_to, limits.ancillary_to, long.0)

pub returns-then-values_refused : goal.returns-then-values_refused
unfolding refused_by number_of
returns-then-values_refused c = let s = from_2 (goal.at.returns-then-values_refused c).Else-runs_refused in
    let a = s.args in
    exports_6 a.octet a.channels a.size a.samples.now a.ancillary.now a.room s.requires refl (even (goal.at.returns-then-values_refused c).Else-runs_refused)
    (sym c.if-values_refused.true ∙ c.values_refused.ensures)

pub returns-then-format-ne0 : goal.returns-then-format-ne0
unfolding refused_by number_of
returns-then-format-ne0 c = let s = start (goal.at.returns-then-format-ne0 c).Else-values_refused in
    let a = s.args in
    exports_26 a.octet a.channels a.size a.samples.now a.ancillary.now a.room s.requires
    refl (even (from_3 (goal.at.returns-then-format-ne0 c).Else-values_refused)) (small (goal.at.returns-then-format-ne0 c).Else-values_refused) c.if-format-ne0.true

pub overflow_mul-set : goal.overflow_mul-set
overflow_mul-set c = omega (arith, frame_small (bounds (from_2 (from_3 (from_4 (goal.at.overflow_mul-set c).Else-format-ne0)))))

pub returns-then-size-set : goal.returns-then-size-set
unfolding refused_by number_of
returns-then-size-set c = let here = from_4 (goal.at.returns-then-size-set c).Else-format-ne0 in
    let s = start here in
    let a = s.args in
    exports_27 a.octet a.channels a.size a.samples.now a.ancillary.now a.room s.requires
    refl (even (from_3 here)) (small here) c.if-format-ne0.false c.if-size-set.true

pub overflow_mul-samples : goal.overflow_mul-samples
overflow_mul-samples c = let here = from_4 (from_5 (goal.at.overflow_mul-samples c).Else-size-set) in
    let s = start here in
    let a = s.args in
    record {
      fits =
          subframes_fit (length a.samples.now) a.set.format.width (bounds (from_2 (from_3 here))).sound.width_to
          (omega (arith, c.well_formed));
    }

pub returns-then-room-samples : goal.returns-then-room-samples
unfolding refused_by number_of
returns-then-room-samples c = let last = from_5 (goal.at.returns-then-room-samples c).Else-size-set in
    let here = from_4 last in
    let s = start here in
    let a = s.args in
    exports_28 a.octet a.channels a.size a.samples.now a.ancillary.now a.room s.requires
    refl (even (from_3 here)) (small here) c.if-format-ne0.false c.if-size-set.false c.if-room-samples.true

pub returns : goal.returns
unfolding refused_by number_of
returns c = let last = from_5 (goal.at.returns c).Else-size-set in
    let here = from_4 last in
    let s = start here in
    let a = s.args in
    exports_0 a.octet a.channels a.size a.samples.now a.ancillary.now a.room s.requires
    refl (even (from_3 here)) (small here) c.if-format-ne0.false c.if-size-set.false c.if-room-samples.false
