-- `presence::records` meets its contract.
-- Assumes nothing.
use Rattle.std.proofs.Common.{◌≡◌, refl, sym, ap, ◌∙◌, arith}
use borrow.Author.Rules.{rules}
use Rattle.std.specs.Prelude.{None, Ok}
use Rattle.cell_log.specs.Answered.{header_answered, record_answered}
use Rattle.cell_log.proofs.Answered.{answered_some, answered_none}
use Rattle.receiver.specs.declared.Ready.{Ready}
use Rattle.presence.proofs.Walks.{begun, along_start, seen, next_is, inside, along_yes, along_next, along_end}
use Rattle.presence.proofs.records.Goals as goal

pub loop-record-init : goal.loop-record-init
loop-record-init c = along_start refl

pub returns-then-said : goal.returns-then-said
returns-then-said c =
    let here = seen c.loop-record.invariant (answered_some _ c.in-Ok-Some.field-0-is c.in-Ok-Some.ensures) in
    along_yes here refl c.read_cell.ensures.0 c.heard-said.ensures c.if-said.true
    ∙ begun (header_answered (Ok c.args.header)) c.args.log.now (ap (λ (r : Ready). r.state) c.opened-opened.ensures)

pub overflow_add-number : goal.overflow_add-number
overflow_add-number c =
    let here = seen c.loop-record.invariant (answered_some _ c.in-Ok-Some.field-0-is c.in-Ok-Some.ensures) in
    omega (arith, here.few, inside here refl, c.well_formed)

pub loop-record-smaller : goal.loop-record-smaller
loop-record-smaller c =
    let here = seen c.loop-record.invariant (answered_some _ c.in-Ok-Some.field-0-is c.in-Ok-Some.ensures) in
    omega (arith, inside here refl, next_is here refl)

pub loop-record-preserved : goal.loop-record-preserved
loop-record-preserved c =
    let here = seen c.loop-record.invariant (answered_some _ c.in-Ok-Some.field-0-is c.in-Ok-Some.ensures) in
    along_next here refl c.read_cell.ensures.0 c.heard-said.ensures c.if-said.false refl

pub returns-in_default : goal.returns-in_default
returns-in_default c =
    let none : c.in_default.field-0 ≡ None = search rules in
    let ends = answered_none _ none (ap (record_answered c.loop-record.place) (sym c.in_default.is) ∙ c.read_record.ensures) in
    along_end (seen c.loop-record.invariant ends) (λ e. omega arith)
    ∙ begun (header_answered (Ok c.args.header)) c.args.log.now (ap (λ (r : Ready). r.state) c.opened-opened.ensures)

pub returns-in_default-2 : goal.returns-in_default-2
returns-in_default-2 c =
    let refused = ap (record_answered c.loop-record.place) (sym c.in_default.is) ∙ c.read_record.ensures in
    along_end (seen c.loop-record.invariant refused) (λ e. omega arith)
    ∙ begun (header_answered (Ok c.args.header)) c.args.log.now (ap (λ (r : Ready). r.state) c.opened-opened.ensures)
