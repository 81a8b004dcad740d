-- `hearing::receiving::walk` meets its contract.
-- Assumes nothing.
use mathlib.Core.Path.{◌≡◌, sym, ◌∙◌, ap}
use native.Mathlib.Omega.{arith}
use Rattle.cell_log.specs.Answers.{Record}
use Rattle.cell_log.proofs.Answered.{answered_some, answered_none}
use Rattle.receiver.specs.Receiver.{state_refusal, used_now}
use Rattle.hearing.specs.declared.receiving.Batch.{Batch}
use Rattle.hearing.specs.Steps.{stopped_as}
use Rattle.hearing.proofs.Stands.{stood_begun, stood_ready, stood_on, stood_end, stood_stopped, step_less, of_begun}
use Rattle.hearing.proofs.receiving.walk.Goals as goal

pub loop-record-init : goal.loop-record-init
loop-record-init c = let begun = c.begun-b in
    let b₀ = begun.result in
    let e = begun.ensures in
    let state : b₀.state ≡ c.args.state = ap (λ (b : Batch). b.state) e in (
      stood_begun b₀.state c.args.used c.args.log.now c.args.place c.args.samples.now c.args.ancillary.now c.args.marks.now (ap state_refusal state ∙ c.requires.0) (c.requires.1 ∙ ap used_now (sym state)) c.requires.2 c.requires.3
          (λ i. record {
            refusal = (e i).refusal;
            state = b₀.state;
            next = (e i).next;
            entries = (e i).entries;
            stop = (e i).stop;
            taken = (e i).taken;
            missing = (e i).missing;
            refused_8 = (e i).refused_8;
            refused_9 = (e i).refused_9;
            refused_15 = (e i).refused_15;
            refused_20 = (e i).refused_20;
          }),
      ap (λ (b : Batch). b.stop) e,
    )

pub one-b-requires : goal.one-b-requires
one-b-requires c = let inv = c.loop-record.invariant in
    let read = answered_some _ c.in-Ok-Some.field-0-is c.in-Ok-Some.ensures in
    let b₀ = c.begun-b.result in (
      stood_ready b₀.state c.args.used c.args.log.now c.args.place c.args.samples.now c.args.ancillary.now c.args.marks.now inv.0 inv.1,
      ap (λ (r : Record). r.what) (sym read),
      ap (λ (r : Record). r.indication) read,
    )

pub shape_of-ancillary-then-b-ne0 : goal.shape_of-ancillary-then-b-ne0
shape_of-ancillary-then-b-ne0 c = c.one-b.auto.ancillary ∙ c.loop-record.invariant.0.ancillary_same ∙ sym c.requires.2

pub shape_of-marks-then-b-ne0 : goal.shape_of-marks-then-b-ne0
shape_of-marks-then-b-ne0 c = c.one-b.auto.marks ∙ c.loop-record.invariant.0.marks_same ∙ sym c.requires.3

pub returns-then-b-ne0 : goal.returns-then-b-ne0
returns-then-b-ne0 c = let called = c.one-b in
    let inv = c.loop-record.invariant in
    let begun = c.begun-b in
    let b₀ = begun.result in
    of_begun begun.ensures
    (stood_stopped b₀.state c.args.used c.args.log.now c.args.place c.args.samples.now c.args.ancillary.now c.args.marks.now inv.0 called.ensures c.if-b-ne0.true inv.1 called.auto.samples called.auto.ancillary called.auto.marks)

pub loop-record-smaller : goal.loop-record-smaller
loop-record-smaller c = step_less c.one-b.ensures c.if-b-ne0.false

pub loop-record-preserved : goal.loop-record-preserved
loop-record-preserved c = let called = c.one-b in
    let inv = c.loop-record.invariant in
    let b₀ = c.begun-b.result in (
      stood_on b₀.state c.args.used c.args.log.now c.args.place c.args.samples.now c.args.ancillary.now c.args.marks.now inv.0 called.ensures inv.1 called.auto.samples called.auto.ancillary called.auto.marks,
      c.if-b-ne0.false,
    )

pub returns-in-Ok-None : goal.returns-in-Ok-None
returns-in-Ok-None c = let inv = c.loop-record.invariant in
    let begun = c.begun-b in
    let b₀ = begun.result in
    let none = answered_none _ c.in-Ok-None.field-0-is c.in-Ok-None.ensures in
    of_begun begun.ensures (stood_end b₀.state c.args.used c.args.log.now c.args.place c.args.samples.now c.args.ancillary.now c.args.marks.now inv.0 none (λ e. omega arith) c.stopped.ensures)

pub returns-in-Err : goal.returns-in-Err
returns-in-Err c = let inv = c.loop-record.invariant in
    let begun = c.begun-b in
    let b₀ = begun.result in
    let none = c.in-Err.ensures in
    of_begun begun.ensures (stood_end b₀.state c.args.used c.args.log.now c.args.place c.args.samples.now c.args.ancillary.now c.args.marks.now inv.0 none (λ e. omega arith) (c.stopped-in-Err.ensures ∙ ap (stopped_as c.loop-record.b) c.into.ensures))
