-- `sender::many::row_of` meets its contract. The loop: so many cells are sent.
-- Assumes nothing.
use Rattle.std.proofs.Common.{◌≡◌, ℕ, ◌+◌, ◌-◌, ◌*◌, ◌≤◌, true, not, eqb, List, length, take, drop, set, sym, refl, ap, ◌∙◌, subst, ne_eqb, arith}
use borrow.Rule.Slice.PartMut.{mid_of}
use Rattle.formats.specs.Settings.{settled_as}
use Rattle.cell_log.proofs.Keeping.{octet_as_converted}
use Rattle.sender.specs.Many.{next_of}
use Rattle.sender.specs.ManyCode.{WritesMany}
use Rattle.sender.specs.Packing.{filled_cell}
use Rattle.sender.specs.Sender.{used_now}
use Rattle.sender.proofs.Cellwise.{begun, used_now_lem, limits_now, number_now_lem, room_here, in_samples, known_sound, as_many}
use Rattle.sender.proofs.Cellwise.{large_ends, can_pack_here, goes_on, ends_full}
use Rattle.sender.proofs.Packing.{bits_in, set_twelve, set_in_order, set_named, set_filled}
use Rattle.sender.proofs.Parts.{part_is, cell_size, cell_part, log_kept}
use Rattle.sender.proofs.many.row_of.Given.{Over}
use Rattle.sender.proofs.many.row_of.Goals as goal
use Rattle.sender.proofs.many.row_of.Goals.{In-loop-cells, Start, then-this-ne0, else-this-ne0}

-- what is asked of the settings where the loop is that of the usual ones
usual : (g : Over) {X : Type 0} → (not (eqb g.row.USUAL 0) ≡ true → X) → (g.row.USUAL ≡ 0 → ⊥) → X
usual g asked some = asked (rw (ne_eqb g.row.USUAL 0 some))

-- a turn of the loop: the parts of the runs, and their room
module _ {g : Over} (l : In-loop-cells g) where
  abbrev s : Start g
  s = (goal.at.In-loop-cells g l).Start

  abbrev at : ℕ
  at = l.loop-cells.at

  abbrev to : ℕ
  to = l.loop-cells.to

  abbrev log : List ℕ
  log = l.loop-cells.log

  abbrev used : ℕ
  used = s.args.set.channels * s.args.set.times

  abbrev part : List ℕ → List ℕ
  part run = take (at + used - at) (drop at run)

  used_is : used ≡ used_now s.args.state
  used_is = used_now_lem s.args.state s.requires.0.state_none s.requires.0.given

  in_s : at + used ≤ length s.args.samples.now
  in_s = omega (arith, in_samples _ _ _ _ _ _ _ _ s.requires.0 l.loop-cells.invariant l.loop-cells-test.true, used_is)

  in_a : at + used ≤ length s.args.ancillary.now
  in_a = omega (arith, in_s, s.requires.0.same)

  in_log : to + 49 ≤ length log
  in_log = room_here _ _ _ _ _ _ _ _ s.requires.0 l.loop-cells.invariant l.loop-cells-test.true

  next_is : used ≡ used_now l.loop-cells.now
  next_is = used_is ∙ sym l.loop-cells.invariant.used

  first : part s.args.samples.now ≡ next_of l.loop-cells.now (drop at s.args.samples.now)
  first = part_is s.args.samples.now at next_is

  second : part s.args.ancillary.now ≡ next_of l.loop-cells.now (drop at s.args.ancillary.now)
  second = part_is s.args.ancillary.now at next_is

pub overflow_mul-used : goal.overflow_mul-used
overflow_mul-used g c = omega (arith, (limits_now c.args.state c.requires.0.state_none c.requires.0.given).used_to)

pub loop-cells-init : goal.loop-cells-init
loop-cells-init g c = begun _ _ _ _ _ _ _ _ c.requires.0

pub overflow_add-past : goal.overflow_add-past
overflow_add-past g c = omega (arith, in_s (goal.at.overflow_add-past g c).In-loop-cells, c.well_formed)

pub offset_bounds-samples-at : goal.offset_bounds-samples-at
offset_bounds-samples-at g c = omega (arith, in_s (goal.at.offset_bounds-samples-at g c).In-loop-cells, c.well_formed)

pub slice_bounds-too_large-end : goal.slice_bounds-too_large-end
slice_bounds-too_large-end g c = in_s (goal.at.slice_bounds-too_large-end g c).In-loop-cells

pub too_large-requires : goal.too_large-requires
too_large-requires g c = let b = c.requires.0 in
    let limits = limits_now c.args.state b.state_none b.given in (
      limits.sample_to,
      limits.ancillary_to,
      as_many _ _ _ _ _ _ _ _ b c.loop-cells.invariant c.loop-cells-test.true (first (goal.at.too_large-requires g c).In-loop-cells) (second (goal.at.too_large-requires g c).In-loop-cells),
      known_sound _ _ _ _ _ _ _ _ b c.loop-cells.invariant c.loop-cells-test.true (first (goal.at.too_large-requires g c).In-loop-cells) (second (goal.at.too_large-requires g c).In-loop-cells),
    )

pub shape_of-log-then-too_large : goal.shape_of-log-then-too_large
shape_of-log-then-too_large g c = c.loop-cells.invariant.same

pub returns-then-too_large : goal.returns-then-too_large
returns-then-too_large g c = large_ends _ _ _ _ _ _ _ _ c.requires.0 c.loop-cells.invariant c.loop-cells-test.true (first (goal.at.returns-then-too_large g c).In-loop-cells) (second (goal.at.returns-then-too_large g c).In-loop-cells)
    (sym c.too_large.ensures ∙ c.if-too_large.true)

pub overflow_add-end : goal.overflow_add-end
overflow_add-end g c = omega (arith, in_log (goal.at.overflow_add-end g c).In-loop-cells, c.loop-cells.invariant.same, c.well_formed)

pub bounds-log-to : goal.bounds-log-to
bounds-log-to g c = omega (arith, in_log (goal.at.bounds-log-to g c).In-loop-cells)

pub fill_usual-requires : goal.fill_usual-requires
fill_usual-requires g c = let l = (goal.at.fill_usual-requires g c).In-loop-cells in
    let small = sym c.too_large.ensures ∙ c.if-too_large.false in
    let p = can_pack_here _ _ _ _ _ _ _ _ c.requires.0 c.loop-cells.invariant c.loop-cells-test.true (first l) (second l) small
    c.indicated-indication.ensures in
    let is = usual g c.requires.1 c.if-this-ne0.true in (
      p,
      set_in_order c.args.state is c.requires.0.given,
      set_named c.args.state is c.requires.0.given,
      cell_part (log l) (to l) c.from.result (in_log l),
      p.samples_length ∙ set_twelve c.args.state is c.requires.0.given,
    )

pub pack-requires : goal.pack-requires
pack-requires g c = let l = (goal.at.pack-requires g c).In-loop-cells in
    let small = sym c.too_large.ensures ∙ c.if-too_large.false in (
      can_pack_here _ _ _ _ _ _ _ _ c.requires.0 c.loop-cells.invariant c.loop-cells-test.true (first l) (second l) small
          c.indicated-indication.ensures,
      cell_part (log l) (to l) c.from.result (in_log l),
    )

pub after-now-requires : goal.after-now-requires
after-now-requires g c = (number_now_lem c.loop-cells.now c.loop-cells.invariant.sound, c.second_now-second.ensures)

pub loop-cells-preserved : goal.loop-cells-preserved
loop-cells-preserved g c = let l = (goal.at.loop-cells-preserved g c).In-loop-cells in
    let octet = c.from.result in
    let small = sym c.too_large.ensures ∙ c.if-too_large.false in
    let indicated-is = c.indicated-indication.ensures in
    let octet-is = c.from.ensures ∙ octet_as_converted c.indicated-indication.result in
    let size = cell_size (log l) (to l) octet (in_log l) in
    let whole = cell_part (log l) (to l) octet (in_log l) in
    elim c.if-this-ne0.branch [
      | then-this-ne0 w ↦
          let filled = w.fill_usual in
          let is = usual g c.requires.1 w.if-this-ne0.true in
          let p = can_pack_here _ _ _ _ _ _ _ _ c.requires.0 c.loop-cells.invariant c.loop-cells-test.true (first l) (second l) small indicated-is in
          goes_on _ _ _ _ _ _ _ _ c.requires.0 c.loop-cells.invariant c.loop-cells-test.true (first l) (second l) small indicated-is
          c.second_now-second.ensures octet-is
          (set_filled c.args.state is c.requires.0.given p w.sequence_of-sequence.result
          (mid_of (to l + 1) (to l + 49 - (to l + 1)) (set (log l) (to l) octet)) whole filled.ensures
          ∙ ap (λ (n : ℕ). filled_cell (settled_as c.args.set) n (part l c.args.samples.now) (part l c.args.ancillary.now)) w.sequence_of-sequence.ensures)
          size (filled.auto.cell ∙ whole) w.log-is
          (ap length w.log-is ∙ log_kept (log l) (to l) octet (in_log l) filled.new.cell filled.auto.cell) refl refl c.after-now.ensures
      | else-this-ne0 w ↦
          let filled = w.pack in
          goes_on _ _ _ _ _ _ _ _ c.requires.0 c.loop-cells.invariant c.loop-cells-test.true (first l) (second l) small indicated-is
          c.second_now-second.ensures octet-is
          (bits_in (settled_as c.args.set) (part l c.args.samples.now) (part l c.args.ancillary.now) c.loop-cells.now.number
          c.second_now-second.result w.sequence_in-sequence.ensures filled.ensures)
          size (filled.auto.cell ∙ whole) w.log-is
          (ap length w.log-is ∙ log_kept (log l) (to l) octet (in_log l) filled.new.cell filled.auto.cell) refl refl c.after-now.ensures
    ]

pub returns : goal.returns
returns g c =
    let all : c.loop-cells.cells ≡ c.args.most = omega (arith, c.loop-cells.invariant.within, c.loop-cells-test.false) in
    subst
    (λ (n : ℕ). WritesMany c.args.indications c.args.state c.args.samples.now c.args.ancillary.now c.args.log.now c.args.place
    c.args.most (record { state = c.loop-cells.now; cells = n }) c.loop-cells.log) all
    (ends_full _ _ _ _ _ _ _ _ c.requires.0 c.loop-cells.invariant c.loop-cells-test.false)
