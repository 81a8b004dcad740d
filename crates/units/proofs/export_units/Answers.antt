-- `units::export_units` meets its contract.
-- Assumes nothing.
use mathlib.Core.Path.{◌≡◌, ◌∙◌, ap}
use Prim.Native.Nat.{◌*◌}
use native.Mathlib.Nat.{div-mul-le_self}
use native.Mathlib.Omega.{arith}
use lib.ListN.{length}
use Rattle.refusals.proofs.Laws.{number_not_0}
use Rattle.refusals.specs.Refusals.{refused_by}
use Rattle.formats.specs.Settings.{settled_as}
use Rattle.formats.specs.Sound.{Limits}
use Rattle.units.specs.Units.{export_refusal, not_exported}
use Rattle.units.proofs.Laws.{frame_some, frame_small, subframes_fit, exports_settings}
use Rattle.units.proofs.Answers.{exports_refused, export_bounds, fit_some, can_pack, exports_taken}
use Rattle.units.proofs.export_units.Goals as goal
use Rattle.units.proofs.export_units.Goals.{In_default, Start}

-- the way back from where nothing is refused
abbrev start : In_default → Start
start c = (goal.at.In_default c).Start

none : (c : In_default)
    → 0
    ≡ export_refusal (start c).args.octet (start c).args.channels (start c).args.size (start c).args.samples.now
    (start c).args.ancillary.now (length (start c).args.out.now)
unfolding refused_by
none c = c.in_default.ensures

bounds : (c : In_default) → Limits (settled_as c.in-Ok.set)
bounds c =
    let a = (start c).args in
    export_bounds a.octet a.channels a.size a.samples.now a.ancillary.now a.out.now c.in-Ok.ensures (none c)

pub checked_export-requires : goal.checked_export-requires
checked_export-requires c = c.in-Ok.ensures

pub returns-in-Err : goal.returns-in-Err
returns-in-Err c = let a = c.args in
    let some = number_not_0 c.in-Err.refusal in
    exports_refused a.octet a.channels a.size a.samples.now a.ancillary.now a.out.now some
    (exports_settings a.octet a.channels a.size a.samples.now a.ancillary.now (length a.out.now) c.in-Err.ensures some)
    (c.not_exported.ensures ∙ ap not_exported c.into.ensures)

pub returns-in-Err-checked_export : goal.returns-in-Err-checked_export
unfolding refused_by
returns-in-Err-checked_export c = let a = c.args in
    exports_refused a.octet a.channels a.size a.samples.now a.ancillary.now a.out.now
    (number_not_0 c.in-Err-checked_export.refusal) c.in-Err-checked_export.ensures
    (c.not_exported-in-Err-checked_export.ensures ∙ ap not_exported c.into-in-Err-checked_export.ensures)

pub overflow_mul-frame : goal.overflow_mul-frame
overflow_mul-frame c = omega (arith, frame_small (bounds (goal.at.overflow_mul-frame c).In_default))

pub nonzero_div-fit : goal.nonzero_div-fit
nonzero_div-fit c = frame_some (bounds (goal.at.nonzero_div-fit c).In_default)

pub nonzero_div-samples : goal.nonzero_div-samples
nonzero_div-samples c = (bounds (goal.at.nonzero_div-samples c).In_default).channels_from

pub units_of-units-requires : goal.units_of-units-requires
units_of-units-requires c = let a = (start (goal.at.units_of-units-requires c).In_default).args in
    fit_some a.octet a.channels a.size a.samples.now a.ancillary.now a.out.now c.in-Ok.ensures (none (goal.at.units_of-units-requires c).In_default)

pub pack-requires : goal.pack-requires
pack-requires c = let a = (start (goal.at.pack-requires c).In_default).args in
    can_pack a.octet a.channels a.size a.samples.now a.ancillary.now a.out.now c.in-Ok.ensures (none (goal.at.pack-requires c).In_default)

pub overflow_mul-result : goal.overflow_mul-result
overflow_mul-result c = let s = start (goal.at.overflow_mul-result c).In_default in
    record {
      fits =
          subframes_fit (length s.args.samples.now) c.in-Ok.set.format.width
          (bounds (goal.at.overflow_mul-result c).In_default).sound.width_to (omega (arith, c.well_formed));
    }

pub overflow_mul-result-2 : goal.overflow_mul-result-2
overflow_mul-result-2 c = let a = (start (goal.at.overflow_mul-result-2 c).In_default).args in
    let set = c.in-Ok.set in
    omega (arith, div-mul-le_self a.size (set.channels * set.format.width), (start (goal.at.overflow_mul-result-2 c).In_default).ranges)

pub returns : goal.returns
returns c = let a = (start (goal.at.returns c).In_default).args in
    exports_taken a.octet a.channels a.size a.samples.now a.ancillary.now a.out.now
    c.in-Ok.ensures (none (goal.at.returns c).In_default)
    c.units_of-units.ensures c.pack.ensures
