-- `saving::count` meets its contract. The loop goes along the records; the measure is what is left of the log.
-- Assumes nothing.
use mathlib.Core.Path.{◌≡◌, refl, sym, ◌∙◌, ap}
use native.Mathlib.Omega.{arith}
use borrow.Author.Rules.{rules}
use Rattle.std.specs.Prelude.{None}
use Rattle.cell_log.specs.Answered.{record_answered}
use Rattle.cell_log.proofs.Answered.{answered_some, answered_none}
use Rattle.saving.proofs.Walks.{start_again, walking_start, seen, walking_less, walking_turn, counted}
use Rattle.saving.proofs.count.Goals as goal

pub loop-record-init : goal.loop-record-init
loop-record-init c = walking_start _ _ c.requires (start_again c.start-here.ensures) refl

pub after-here-requires : goal.after-here-requires
after-here-requires c = c.loop-record.invariant.far

pub loop-record-smaller : goal.loop-record-smaller
loop-record-smaller c =
    walking_less (seen c.loop-record.invariant (answered_some _ c.in-Ok-Some.field-0-is c.in-Ok-Some.ensures)) refl c.judged-got.result
    c.after-here.ensures

pub loop-record-preserved : goal.loop-record-preserved
loop-record-preserved c =
    walking_turn (seen c.loop-record.invariant (answered_some _ c.in-Ok-Some.field-0-is c.in-Ok-Some.ensures)) refl c.read_cell.ensures.0
    c.judged-got.ensures c.after-here.ensures refl

pub returns-in_default : goal.returns-in_default
returns-in_default c =
    let none : c.in_default.field-0 ≡ None = search rules in
    counted (seen c.loop-record.invariant (answered_none _ none (ap (record_answered c.loop-record.here.place) (sym c.in_default.is) ∙ c.read_record.ensures))) (λ e. omega arith) c.start-here.ensures refl

pub returns-in_default-2 : goal.returns-in_default-2
returns-in_default-2 c =
    let refused = ap (record_answered c.loop-record.here.place) (sym c.in_default.is) ∙ c.read_record.ensures in
    counted (seen c.loop-record.invariant refused) (λ e. omega arith) c.start-here.ensures refl
