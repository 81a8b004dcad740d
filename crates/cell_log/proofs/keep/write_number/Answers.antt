-- `cell_log::keep::write_number` meets its contract: a law for each return.
-- Assumes nothing.
use mathlib.Core.Path.{refl, ap}
use native.Mathlib.Omega.{arith}
use lib.ListN.{length, length-set}
use Rattle.refusals.specs.Refusals.{number_of}
use Rattle.cell_log.proofs.Laws.{groups_1, groups_many, groups_2, groups_3}
use Rattle.cell_log.proofs.Keeping.{keeps_not, number_large, number_no_room, stored_1, stored_2, stored_3}
use Rattle.cell_log.proofs.keep.write_number.Goals as goal
use Rattle.cell_log.proofs.keep.write_number.Goals.{then-value-gt2097151-via-then-value-gt2097151, then-value-gt2097151-via-else-value-gt2097151+then-saturating_sub-group_count}

pub returns-then-value-gt2097151 : goal.returns-then-value-gt2097151
unfolding number_of
returns-then-value-gt2097151 c =
    keeps_not 10
    (elim c.then-value-gt2097151.branch [
      | then-value-gt2097151-via-then-value-gt2097151 w ↦ number_large _ _ _ w.if-value-gt2097151.true
      | then-value-gt2097151-via-else-value-gt2097151+then-saturating_sub-group_count w ↦
          number_no_room _ _ _ w.if-value-gt2097151.false (omega (arith, w.saturating_sub.ensures, w.group_count.ensures, w.if-saturating_sub-group_count.true))
    ])
    refl

pub bounds-log-place : goal.bounds-log-place
bounds-log-place c = omega (arith, c.saturating_sub.ensures, c.group_count.ensures, ap length (groups_1 2 _ c.if-value-lt128.true))

pub overflow_add-result : goal.overflow_add-result
overflow_add-result c = omega (arith, c.saturating_sub.ensures, c.group_count.ensures, ap length (groups_1 2 _ c.if-value-lt128.true))

pub returns-then-value-lt128 : goal.returns-then-value-lt128
returns-then-value-lt128 c = stored_1 _ _ _ c.if-value-lt128.true (omega (arith, c.saturating_sub.ensures, c.group_count.ensures, ap length (groups_1 2 _ c.if-value-lt128.true))) refl

pub bounds-log-place-2 : goal.bounds-log-place-2
bounds-log-place-2 c = omega (arith, c.saturating_sub.ensures, c.group_count.ensures, groups_many 2 _ c.if-value-lt128.false)

pub overflow_add-log-then-value-lt16384 : goal.overflow_add-log-then-value-lt16384
overflow_add-log-then-value-lt16384 c = omega (arith, c.saturating_sub.ensures, c.group_count.ensures, ap length (groups_2 _ c.if-value-lt128.false c.if-value-lt16384.true))

pub bounds-log-place-then-value-lt16384 : goal.bounds-log-place-then-value-lt16384
bounds-log-place-then-value-lt16384 c = simp length-set (omega (arith, c.saturating_sub.ensures, c.group_count.ensures, ap length (groups_2 _ c.if-value-lt128.false c.if-value-lt16384.true)))

pub overflow_add-result-then-value-lt16384 : goal.overflow_add-result-then-value-lt16384
overflow_add-result-then-value-lt16384 c = omega (arith, c.saturating_sub.ensures, c.group_count.ensures, ap length (groups_2 _ c.if-value-lt128.false c.if-value-lt16384.true))

pub returns-then-value-lt16384 : goal.returns-then-value-lt16384
returns-then-value-lt16384 c =
    stored_2 _ _ _ c.if-value-lt128.false c.if-value-lt16384.true (omega (arith, c.saturating_sub.ensures, c.group_count.ensures, ap length (groups_2 _ c.if-value-lt128.false c.if-value-lt16384.true))) refl

pub overflow_add-log-3 : goal.overflow_add-log-3
overflow_add-log-3 c = omega (arith, c.saturating_sub.ensures, c.group_count.ensures, ap length (groups_3 _ c.if-value-lt16384.false (omega arith)))

pub bounds-log-place-3 : goal.bounds-log-place-3
bounds-log-place-3 c = simp length-set (omega (arith, c.saturating_sub.ensures, c.group_count.ensures, ap length (groups_3 _ c.if-value-lt16384.false (omega arith))))

pub overflow_add-log-4 : goal.overflow_add-log-4
overflow_add-log-4 c = omega (arith, c.saturating_sub.ensures, c.group_count.ensures, ap length (groups_3 _ c.if-value-lt16384.false (omega arith)))

pub bounds-log-place-4 : goal.bounds-log-place-4
bounds-log-place-4 c = simp length-set (omega (arith, c.saturating_sub.ensures, c.group_count.ensures, ap length (groups_3 _ c.if-value-lt16384.false (omega arith))))

pub overflow_add-result-2 : goal.overflow_add-result-2
overflow_add-result-2 c = omega (arith, c.saturating_sub.ensures, c.group_count.ensures, ap length (groups_3 _ c.if-value-lt16384.false (omega arith)))

pub returns : goal.returns
returns c = stored_3 _ _ _ c.if-value-lt16384.false (omega arith) (omega (arith, c.saturating_sub.ensures, c.group_count.ensures, ap length (groups_3 _ c.if-value-lt16384.false (omega arith)))) refl
