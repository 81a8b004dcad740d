-- `receiver::judged_any` meets its contract.
-- Assumes nothing.
use lib.ListN.{length}
use Rattle.refusals.proofs.Laws.{number_not_0}
use Rattle.receiver.specs.Receiver.{judged_of}
use Rattle.receiver.proofs.Laws.{early_settings, answer_early}
use Rattle.receiver.proofs.judged_any.Goals as goal

pub returns-in-Err : goal.returns-in-Err
unfolding judged_of
returns-in-Err c =
    let some = number_not_0 c.in-Err.refusal in
    rw c.refused.ensures
    (answer_early c.args.state c.args.cell.now c.args.indication 720 720 720 some
    (early_settings c.args.state c.in-Err.ensures (length c.args.cell.now) 720 720 720 some))

pub returns : goal.returns
unfolding judged_of
returns c = c.answered.ensures
