-- `hearing::judging::walk` meets its contract. The loop: so many records are judged.
-- Assumes nothing.
use mathlib.Core.Path.{◌≡◌, refl, ◌∙◌, ap}
use Prim.Native.Nat.{ℕ, ◌/◌}
use native.Mathlib.Omega.{arith}
use lib.ListN.{length}
use Rattle.cell_log.proofs.Answered.{answered_some, answered_none}
use Rattle.receiver.specs.declared.Receiver.{Receiver}
use Rattle.hearing.specs.declared.judging.Judged.{Judged}
use Rattle.hearing.proofs.Walks.{room_for_five, begun, seen, turned, ends_full, ends_there}
use Rattle.hearing.proofs.judging.walk.Goals as goal

-- a walk that ended, by why it stopped
abbrev stopped : Receiver → ℕ → ℕ → ℕ → Judged
stopped state next records stop = record { refusal = 0; state = state; next = next; records = records; stop = stop }

pub loop-records-init : goal.loop-records-init
loop-records-init c = begun _ _ _ _ refl

pub put-requires : goal.put-requires
put-requires c = room_for_five c.loop-records.reports c.args.reports.now c.loop-records.invariant.same c.loop-records-test.true

pub loop-records-preserved : goal.loop-records-preserved
loop-records-preserved c =
    let read = answered_some _ c.in-Ok-Some.field-0-is c.in-Ok-Some.ensures in
    turned _ _ _ _ (seen _ _ _ _ c.loop-records.invariant read) refl c.loop-records-test.true c.read_cell.ensures.0
    c.judged-got.ensures c.put.ensures c.put.auto.reports refl

pub returns-in-Ok-None : goal.returns-in-Ok-None
returns-in-Ok-None c =
    let read = answered_none _ c.in-Ok-None.field-0-is c.in-Ok-None.ensures in
    ends_there _ _ _ _ (seen _ _ _ _ c.loop-records.invariant read) (λ e. omega arith) c.ended.ensures

pub returns-in-Err : goal.returns-in-Err
returns-in-Err c =
    let loop = c.loop-records in
    ends_there _ _ _ _ (seen _ _ _ _ loop.invariant c.in-Err.ensures) (λ e. omega arith)
    (c.ended-in-Err.ensures ∙ ap (stopped loop.now loop.at loop.records) c.into.ensures)

pub returns : goal.returns
returns c = let l = c.loop-records in
    let all : length c.args.reports.now / 5 ≡ l.records = omega (arith, l.auto.records-end, c.loop-records-test.false) in
    ends_full _ _ _ _ l.invariant c.loop-records-test.false
    (c.ended-2.ensures ∙ ap (λ (n : ℕ). stopped l.now l.at n c.stop_at.result) all ∙ ap (stopped l.now l.at l.records) c.stop_at.ensures)
