-- No second answer: whatever answer and lent run at exit meet the contract of a public function are equal. Stated over the contract
-- itself.
-- Assumes nothing.
use mathlib.Core.Path.{sym, ◌∙◌}
use Rattle.runs.proofs.One.{One}
use Rattle.hearing.proofs.judging.judge.Kinds as judge-kinds
use Rattle.hearing.proofs.judging.judge.Reads as judge-reads
use Rattle.hearing.proofs.receiving.receive.Kinds as receive-kinds
use Rattle.hearing.proofs.receiving.receive.Reads as receive-reads

pub judge_one : One judge-kinds.ps judge-kinds.r judge-reads.Pre judge-reads.Post
judge_one κs a x y v w pre p q =
    (p.answered ∙ sym q.answered, λ i. (tt, (tt, (tt, ((p.reports_after ∙ sym q.reports_after) i, tt)))))

pub receive_one : One receive-kinds.ps receive-kinds.r receive-reads.Pre receive-reads.Post
receive_one κs a x y v w pre p q = (
  p.answered ∙ sym q.answered,
  λ i. (
    tt,
    (
      tt,
      (
        tt,
        (
          (p.samples_after ∙ sym q.samples_after) i,
          ((p.ancillary_after ∙ sym q.ancillary_after) i, ((p.marks_after ∙ sym q.marks_after) i, tt)),
        ),
      ),
    ),
  ),
)
