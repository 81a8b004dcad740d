-- `saving::write` meets its contract. The loop goes along the records; the measure is what is left of the log.
-- Assumes nothing.
use mathlib.Core.Path.{◌≡◌, refl, sym, ◌∙◌, ap}
use native.Mathlib.Omega.{arith}
use borrow.Author.Rules.{rules}
use Rattle.std.specs.Prelude.{None}
use Rattle.cell_log.specs.Answered.{record_answered}
use Rattle.cell_log.proofs.Answered.{answered_some, answered_none}
use Rattle.saving.proofs.Walks.{
  start_again,
  room_again,
  walking_start,
  seen,
  walking_less,
  walking_turn,
  walking_fits,
  counted,
  putting_start,
  putting_room,
  putting_turn,
  wrote,
}
use Rattle.saving.proofs.write.Goals as goal

pub loop-record-init : goal.loop-record-init
loop-record-init c = let e = c.start-here.ensures in
    let room = c.requires in
    (room_again e room, walking_start _ _ room.headed (start_again e) refl, putting_start _ _ _ _ (start_again e))

pub put-requires : goal.put-requires
put-requires c = let inv = c.loop-record.invariant in
    let here = seen inv.1 (answered_some _ c.in-Ok-Some.field-0-is c.in-Ok-Some.ensures) in
    walking_fits here refl c.read_cell-cell.ensures.0 c.judged-got.ensures (putting_room inv.2 inv.0)

pub after-here-requires : goal.after-here-requires
after-here-requires c = c.loop-record.invariant.1.far

pub loop-record-smaller : goal.loop-record-smaller
loop-record-smaller c =
    walking_less (seen c.loop-record.invariant.1 (answered_some _ c.in-Ok-Some.field-0-is c.in-Ok-Some.ensures)) refl c.judged-got.result
    c.after-here.ensures

pub loop-record-preserved : goal.loop-record-preserved
loop-record-preserved c = let inv = c.loop-record.invariant in
    let here = seen inv.1 (answered_some _ c.in-Ok-Some.field-0-is c.in-Ok-Some.ensures) in
    let cell = c.read_cell-cell.ensures.0 in (
      inv.0,
      walking_turn here refl cell c.judged-got.ensures c.after-here.ensures refl,
      putting_turn inv.2 here refl (omega (arith, inv.0.out_room)) cell c.judged-got.ensures
          c.after-here.ensures c.put.ensures c.put.auto.out c.put.auto.list,
    )

pub returns-in_default : goal.returns-in_default
returns-in_default c = let inv = c.loop-record.invariant in
    let start = c.start-here.ensures in
    let none : c.in_default.field-0 ≡ None = search rules in
    let here = seen inv.1 (answered_none _ none (ap (record_answered c.loop-record.here.place) (sym c.in_default.is) ∙ c.read_record.ensures)) in
    (counted here (λ e. omega arith) start refl, wrote inv.2 here start refl (λ e. omega arith))

pub returns-in_default-2 : goal.returns-in_default-2
returns-in_default-2 c = let inv = c.loop-record.invariant in
    let start = c.start-here.ensures in
    let here = seen inv.1 (ap (record_answered c.loop-record.here.place) (sym c.in_default.is) ∙ c.read_record.ensures) in
    (counted here (λ e. omega arith) start refl, wrote inv.2 here start refl (λ e. omega arith))
