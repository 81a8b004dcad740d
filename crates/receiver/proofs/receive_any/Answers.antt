-- `receiver::receive_any` meets its contract.
-- Assumes nothing.
use native.Mathlib.Nat.{mul-le-mul}
use native.Mathlib.Omega.{arith}
use lib.ListN.{length}
use Rattle.refusals.proofs.Laws.{number_not_0}
use Rattle.receiver.proofs.Laws.{Call, early_settings, answer_early, judged_refused, set_limits, cell_whole, missing_few, roomy, judged_taken}
use Rattle.receiver.proofs.receive_any.Goals as goal
use Rattle.receiver.proofs.receive_any.Goals.{Start}

-- the call
abbrev call : Start → Call
call s =
    record {
      state = s.args.state;
      cell = s.args.cell.now;
      indication = s.args.indication;
      samples = s.args.samples.now;
      ancillary = s.args.ancillary.now;
      marks = s.args.marks.now;
    }

pub returns-in-Err : goal.returns-in-Err
returns-in-Err c =
    let k = call (goal.at.returns-in-Err c).Start in
    let some = number_not_0 c.in-Err.refusal in
    rw c.refused.ensures
    (judged_refused k
    (answer_early k.state k.cell k.indication _ _ _ some
    (early_settings k.state c.in-Err.ensures (length k.cell) (length k.samples) (length k.ancillary) (length k.marks) some))
    some)

pub returns-then-answer-ne0 : goal.returns-then-answer-ne0
returns-then-answer-ne0 c = judged_refused (call (goal.at.returns-then-answer-ne0 c).Start) c.answered-answer.ensures c.if-answer-ne0.true

pub overflow_mul-place : goal.overflow_mul-place
overflow_mul-place c = let at = goal.at.overflow_mul-place c in
    omega (arith, (set_limits (call at.Start) c.answered-answer.ensures c.in-Ok.ensures c.if-answer-ne0.false).used_to)

pub overflow_mul-place-2 : goal.overflow_mul-place-2
overflow_mul-place-2 c = let k = call (goal.at.overflow_mul-place-2 c).Start in
    let product
    = mul-le-mul (missing_few k c.answered-answer.ensures c.in-Ok.ensures c.if-answer-ne0.false)
    (set_limits k c.answered-answer.ensures c.in-Ok.ensures c.if-answer-ne0.false).used_to in
    omega arith

pub write-requires : goal.write-requires
write-requires c = let k = call (goal.at.write-requires c).Start in (
  set_limits k c.answered-answer.ensures c.in-Ok.ensures c.if-answer-ne0.false,
  cell_whole k c.answered-answer.ensures c.in-Ok.ensures c.if-answer-ne0.false,
  roomy k c.answered-answer.ensures c.in-Ok.ensures c.if-answer-ne0.false,
)

pub returns : goal.returns
returns c =
    judged_taken (call (goal.at.returns c).Start) c.answered-answer.ensures c.in-Ok.ensures c.if-answer-ne0.false c.write.ensures
