-- `sender::many::walk` meets its contract.
-- Assumes nothing.
use Rattle.std.proofs.Common.{◌≡◌, ℕ, ◌*◌, ◌/◌, ◌<◌, ◌≤◌, length, sym, refl, mul-le-mul_right, arith, length-take-le}
use Rattle.sender.specs.Many.{room_from}
use Rattle.sender.proofs.Batches.{used_some, most_there, parts_same, bounds, batch_sent}
use Rattle.sender.proofs.Cellwise.{limits_now}
use Rattle.sender.proofs.many.walk.Goals as goal
use Rattle.sender.proofs.many.walk.Goals.{After-min-most, Start}

-- how many cells there may be
module _ (q : After-min-most) where
  abbrev s : Start
  s = (goal.at.After-min-most q).Start

  abbrev most : ℕ
  most = q.min-most.result

  abbrev room : ℕ
  room = room_from s.args.log.now s.args.place

  to_room : most ≤ room
  to_room = omega (arith, q.min-most.ensures, q.records_from-room.ensures)

  or_whole : most < room → most ≡ length s.args.samples.now / (s.args.set.channels * s.args.set.times)
  or_whole less = omega (arith, q.min-most.ensures, less, q.records_from-room.ensures)

  to_whole : most ≤ length s.args.samples.now / (s.args.set.channels * s.args.set.times)
  to_whole = omega (arith, q.min-most.ensures)

  there : most * (s.args.set.channels * s.args.set.times) ≤ length s.args.samples.now
  there =
      most_there s.args.state s.requires.0 s.requires.1 s.args.samples.now s.args.ancillary.now s.args.log.now s.args.place
      s.requires.2 to_whole to_room or_whole

pub overflow_mul-used : goal.overflow_mul-used
overflow_mul-used c = omega (arith, (limits_now c.args.state c.requires.1 c.requires.0).used_to)

pub nonzero_div-whole : goal.nonzero_div-whole
nonzero_div-whole c = used_some c.args.state c.requires.0 c.requires.1 c.args.samples.now c.args.ancillary.now c.args.log.now c.args.place c.requires.2

pub overflow_mul-past : goal.overflow_mul-past
overflow_mul-past c = omega (arith, there (goal.at.overflow_mul-past c).After-min-most, c.well_formed)

pub slice_bounds-values_refused-end : goal.slice_bounds-values_refused-end
slice_bounds-values_refused-end c = sym (length-take-le _ c.args.samples.now (there (goal.at.slice_bounds-values_refused-end c).After-min-most))

pub slice_bounds-values_refused-end-2 : goal.slice_bounds-values_refused-end-2
slice_bounds-values_refused-end-2 c = sym (length-take-le _ c.args.ancillary.now (omega (arith, there (goal.at.slice_bounds-values_refused-end-2 c).After-min-most, c.requires.2)))

pub values_refused-sound-requires : goal.values_refused-sound-requires
values_refused-sound-requires c = let l = limits_now c.args.state c.requires.1 c.requires.0 in (
  l.sample_to,
  l.ancillary_to,
  parts_same c.args.state c.requires.0 c.requires.1 c.args.samples.now c.args.ancillary.now c.args.log.now
      c.args.place c.requires.2 (to_whole (goal.at.values_refused-sound-requires c).After-min-most) (to_room (goal.at.values_refused-sound-requires c).After-min-most) (or_whole (goal.at.values_refused-sound-requires c).After-min-most),
)

pub row-sent-requires : goal.row-sent-requires
row-sent-requires c = let at = (goal.at.row-sent-requires c).After-min-most in
    bounds c.args.state c.requires.0 c.requires.1 c.args.samples.now c.args.ancillary.now c.args.log.now
    c.args.place c.requires.2 (to_whole at) (to_room at) (or_whole at) c.values_refused-sound.ensures refl

pub overflow_mul-next : goal.overflow_mul-next
overflow_mul-next c = omega (arith, to_room (goal.at.overflow_mul-next c).After-min-most, c.row-sent.ensures.within, c.well_formed)

pub overflow_add-next : goal.overflow_add-next
overflow_add-next c = omega (arith, to_room (goal.at.overflow_add-next c).After-min-most, c.row-sent.ensures.within, c.well_formed, c.ranges)

pub overflow_mul-entries : goal.overflow_mul-entries
overflow_mul-entries c = let used = c.args.set.channels * c.args.set.times in
    omega (arith, there (goal.at.overflow_mul-entries c).After-min-most, mul-le-mul_right used c.row-sent.ensures.within, c.well_formed)

pub returns : goal.returns
returns c = let at = (goal.at.returns c).After-min-most in
    batch_sent c.args.state c.requires.0 c.requires.1 c.args.samples.now c.args.ancillary.now c.args.log.now
    c.args.place c.requires.2 (to_whole at) (to_room at) (or_whole at) c.args.indications c.row-sent.ensures
    c.stop_of-stop.ensures
