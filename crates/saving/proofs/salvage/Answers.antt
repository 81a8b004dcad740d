-- `saving::salvage` meets its contract: a law for each return.
-- Assumes nothing.
use mathlib.Core.Path.{refl, sym, ◌∙◌, ap}
use Prim.Native.Nat.{ℕ}
use native.Mathlib.Omega.{arith}
use borrow.Author.Tests.{eqb-true}
use lib.ListN.{length}
use Rattle.refusals.proofs.Laws.{number_not_0}
use Rattle.saving.specs.Code.{not_saved}
use Rattle.saving.specs.Salvage.{salvage_refusal}
use Rattle.saving.proofs.Answers.{header_unsaved, ok, fresh_state, short_unsaved, few, room, saved}
use Rattle.saving.proofs.salvage.Goals as goal

pub returns-in-Err : goal.returns-in-Err
returns-in-Err c = header_unsaved _ c.in-Err.ensures (number_not_0 _) (c.refused.ensures ∙ ap not_saved c.into.ensures)

pub has_room-requires : goal.has_room-requires
has_room-requires c = (
  ok _ c.in-Ok.ensures refl,
  fresh_state _ c.in-Ok.ensures refl c.opened-opened.ensures,
)

pub returns-then-not-has_room : goal.returns-then-not-has_room
returns-then-not-has_room c =
    short_unsaved _ c.in-Ok.ensures refl
    (sym c.has_room.ensures ∙ c.if-not-has_room.true) c.refused-then-not-has_room.ensures

-- the header leaves `out` as long as it was
pub write-end-requires : goal.write-end-requires
write-end-requires c =
    room _ (ok _ c.in-Ok.ensures refl)
    (fresh_state _ c.in-Ok.ensures refl c.opened-opened.ensures)
    (ap (λ (n : ℕ). salvage_refusal c.args.log.now n (length c.args.list.now)) c.write_header.auto.log
    ∙ eqb-true _ 0 (sym c.has_room.ensures ∙ c.if-not-has_room.false))

-- what is counted is no more than the log
pub overflow_mul-result : goal.overflow_mul-result
overflow_mul-result c =
    omega (
      arith,
      c.well_formed,
      few _ (ok _ c.in-Ok.ensures refl)
          (fresh_state _ c.in-Ok.ensures refl c.opened-opened.ensures)
          c.write-end.ensures.0,
    )

pub overflow_add-result : goal.overflow_add-result
overflow_add-result c =
    omega (
      arith,
      c.well_formed,
      few _ (ok _ c.in-Ok.ensures refl)
          (fresh_state _ c.in-Ok.ensures refl c.opened-opened.ensures)
          c.write-end.ensures.0,
    )

pub overflow_sub-result : goal.overflow_sub-result
overflow_sub-result c = c.write-end.ensures.0.within

pub shape_of-out : goal.shape_of-out
shape_of-out c = c.write-end.auto.out ∙ c.write_header.auto.log

pub shape_of-list : goal.shape_of-list
shape_of-list c = c.write-end.auto.list

pub returns : goal.returns
returns c =
    saved _ c.in-Ok.ensures refl c.opened-opened.ensures _ _
    (eqb-true _ 0 (sym c.has_room.ensures ∙ c.if-not-has_room.false)) c.write_header.ensures
    c.write-end.ensures.1 c.write-end.ensures.0
