-- `management::status::write_status` meets its contract.
-- Assumes nothing.
use mathlib.Core.Path.{◌≡◌, ap}
use native.Mathlib.Omega.{arith}
use Rattle.management.specs.Code.{status_length}
use Rattle.management.proofs.Messages.{other_status, length_status, length_other}
use Rattle.management.proofs.Parts.{written_over}
use Rattle.management.proofs.Replies.{no_room, with_room}
use Rattle.management.proofs.status.write_status.Goals as goal

pub returns-then-answer-length-clause-replies : goal.returns-then-answer-length-clause-replies
returns-then-answer-length-clause-replies c = let a = c.args in
    no_room _ _ (omega (arith, length_status a.ports.now a.asked, c.status_length-length.ensures.0))

pub write_input_status-requires : goal.write_input_status-requires
unfolding status_length
write_input_status-requires c = let nine : status_length c.args.asked.subsystem_code ≡ 9 = ap status_length c.if-asked-eq0.true in
    (c.if-asked-eq0.true, omega (arith, c.status_length-length.ensures.0))

pub returns-then-asked-eq0-clause-replies : goal.returns-then-asked-eq0-clause-replies
returns-then-asked-eq0-clause-replies c = let long = length_status c.args.ports.now c.args.asked in
    with_room _ _ (omega (arith, long, c.status_length-length.ensures.0, c.if-answer-length.false)) (omega (arith, long, c.status_length-length.ensures.0))
    c.write_input_status.ensures

pub write_output_status-requires : goal.write_output_status-requires
unfolding status_length
write_output_status-requires c = let many : status_length c.args.asked.subsystem_code ≡ 29 = ap status_length c.if-asked-eq1.true in
    (c.if-asked-eq1.true, omega (arith, c.status_length-length.ensures.0))

pub returns-then-asked-eq1-clause-replies : goal.returns-then-asked-eq1-clause-replies
returns-then-asked-eq1-clause-replies c = let long = length_status c.args.ports.now c.args.asked in
    with_room _ _ (omega (arith, long, c.status_length-length.ensures.0, c.if-answer-length.false)) (omega (arith, long, c.status_length-length.ensures.0))
    c.write_output_status.ensures

pub put-requires : goal.put-requires
put-requires c = let two = length_other c.if-asked-eq0.false c.if-asked-eq1.false in
    omega (arith, c.status_length-length.ensures.0, c.if-answer-length.false)

pub returns-else-asked-eq1-clause-replies : goal.returns-else-asked-eq1-clause-replies
returns-else-asked-eq1-clause-replies c = let long = length_status c.args.ports.now c.args.asked in
    with_room _ _ (omega (arith, long, c.status_length-length.ensures.0, c.if-answer-length.false)) (omega (arith, long, c.status_length-length.ensures.0))
    (written_over _ (other_status c.args.ports.now c.args.asked c.if-asked-eq0.false c.if-asked-eq1.false) c.put.ensures)
