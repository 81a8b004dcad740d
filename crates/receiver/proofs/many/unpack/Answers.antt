-- `receiver::many::unpack` meets its contract.
-- Assumes nothing.
use mathlib.Core.Bool.{true}
use mathlib.Core.Path.{◌≡◌, refl, sym, ◌∙◌, subst}
use Prim.Native.Nat.{ℕ, ◌+◌, ◌*◌, ◌≤◌}
use native.Mathlib.Omega.{arith}
use lib.ListN.{length}
use Rattle.refusals.proofs.Laws.{number_not_0}
use Rattle.formats.specs.Settings.{settled_as}
use Rattle.formats.specs.Sound.{Limits}
use Rattle.formats.proofs.Laws.{limits_of}
use Rattle.receiver.specs.Many.{fits_in}
use Rattle.receiver.specs.Unpacking.{used_in, Room}
use Rattle.receiver.proofs.Unpacking.{used_from}
use Rattle.receiver.proofs.Unpacked.{fits_there, fits_room, unpacks_refused, unpacks_not, unpacks_so, unpacks_used, unpacks_usual}
use Rattle.receiver.proofs.many.unpack.Goals as goal
use Rattle.receiver.proofs.many.unpack.Goals.{Else-not-fits, In-Ok}

-- where the settings aren't refused
limits : (c : In-Ok) → Limits (settled_as c.in-Ok.set)
limits c = limits_of c.args.state.format c.args.state.channels c.args.state.order c.in-Ok.ensures refl

-- where all fits
module _ (c : Else-not-fits) where
  yes_fits : fits_in (used_in (settled_as c.in-Ok.set)) (length c.args.octets.now) c.args.place c.args.records c.args.missing
      (length c.args.samples.now) (length c.args.ancillary.now) (length c.args.marks.now)
      ≡ true
  yes_fits = sym c.fits.ensures ∙ c.if-not-fits.false

  room : Room (c.args.missing * used_in (settled_as c.in-Ok.set)) (c.args.records * used_in (settled_as c.in-Ok.set)) c.args.samples.now
      c.args.ancillary.now c.args.marks.now
  room =
      fits_room (used_in (settled_as c.in-Ok.set)) (length c.args.octets.now) c.args.place c.args.records c.args.missing
      c.args.samples.now c.args.ancillary.now c.args.marks.now yes_fits

  there : c.args.place + 49 * c.args.records ≤ length c.args.octets.now
  there =
      fits_there (used_in (settled_as c.in-Ok.set)) (length c.args.octets.now) c.args.place c.args.records c.args.missing
      c.args.samples.now c.args.ancillary.now c.args.marks.now yes_fits

pub returns-in_default : goal.returns-in_default
returns-in_default c =
    unpacks_refused c.args.state c.args.octets.now c.args.place c.args.records c.args.missing c.args.samples.now
    c.args.ancillary.now c.args.marks.now c.in_default.ensures (number_not_0 _)

pub overflow_mul-used : goal.overflow_mul-used
overflow_mul-used c = omega (arith, (limits (goal.at.overflow_mul-used c).In-Ok).used_to)

pub fits-requires : goal.fits-requires
fits-requires c = used_from (settled_as c.in-Ok.set) c.args.octets.now (limits (goal.at.fits-requires c).In-Ok)

pub returns-then-not-fits : goal.returns-then-not-fits
returns-then-not-fits c =
    unpacks_not c.args.state c.args.octets.now c.args.place c.args.records c.args.missing c.args.samples.now
    c.args.ancillary.now c.args.marks.now c.in-Ok.ensures refl c.fits.ensures c.if-not-fits.true

pub overflow_mul-lost : goal.overflow_mul-lost
overflow_mul-lost c = omega (arith, (room (goal.at.overflow_mul-lost c).Else-not-fits).samples_room, c.well_formed)

pub usual_cells-requires : goal.usual_cells-requires
usual_cells-requires c = let at = goal.at.usual_cells-requires c in (
  there at.Else-not-fits,
  subst
      (λ (n : ℕ).
      Room (c.args.missing * used_in (settled_as c.in-Ok.set)) (c.args.records * n) c.args.samples.now c.args.ancillary.now c.args.marks.now)
      (unpacks_used c.args.state c.args.octets.now c.args.place c.args.records c.args.missing c.args.samples.now
      c.args.ancillary.now c.args.marks.now c.in-Ok.ensures (sym c.is_usual.ensures ∙ c.if-is_usual.true))
      (room at.Else-not-fits),
)

pub returns-then-is_usual : goal.returns-then-is_usual
returns-then-is_usual c =
    unpacks_so c.args.state c.args.octets.now c.args.place c.args.records c.args.missing c.args.samples.now
    c.args.ancillary.now c.args.marks.now c.in-Ok.ensures refl c.fits.ensures c.if-not-fits.false
    (unpacks_usual c.args.state c.args.octets.now c.args.place c.args.records c.args.missing c.args.samples.now
    c.args.ancillary.now c.args.marks.now c.in-Ok.ensures (sym c.is_usual.ensures ∙ c.if-is_usual.true) c.usual_cells.ensures)

pub any_cells-requires : goal.any_cells-requires
any_cells-requires c = let at = goal.at.any_cells-requires c in (
  limits at.In-Ok,
  there at.Else-not-fits,
  room at.Else-not-fits,
)
