-- No second answer: whatever answer and lent arrays and runs at exit meet the contract of a call over many records are equal. Stated
-- over the contract itself.
-- Assumes nothing.
use mathlib.Core.Path.{sym, ◌∙◌}
use Rattle.runs.proofs.One.{One}
use Rattle.rimesatchel.proofs.batches.rime_judge_log.Kinds as judge-log-kinds
use Rattle.rimesatchel.proofs.batches.rime_judge_log.Reads as judge-log-reads
use Rattle.rimesatchel.proofs.batches.rime_receive_log.Kinds as receive-log-kinds
use Rattle.rimesatchel.proofs.batches.rime_receive_log.Reads as receive-log-reads

pub judge_log_one : One judge-log-kinds.ps judge-log-kinds.r judge-log-reads.Pre judge-log-reads.Post
judge_log_one κs a x y v w pre p q = (
  p.refused ∙ sym q.refused,
  λ i. (
    (p.leaves ∙ sym q.leaves) i,
    (tt, (tt, ((p.judges.reports_after ∙ sym q.judges.reports_after) i, ((p.counted ∙ sym q.counted) i, tt)))),
  ),
)

pub receive_log_one : One receive-log-kinds.ps receive-log-kinds.r receive-log-reads.Pre receive-log-reads.Post
receive_log_one κs a x y v w pre p q = (
  p.refused ∙ sym q.refused,
  λ i. (
    (p.leaves ∙ sym q.leaves) i,
    (
      tt,
      (
        tt,
        (
          (p.receives.samples_after ∙ sym q.receives.samples_after) i,
          (
            (p.receives.ancillary_after ∙ sym q.receives.ancillary_after) i,
            ((p.receives.marks_after ∙ sym q.receives.marks_after) i, ((p.counted ∙ sym q.counted) i, tt)),
          ),
        ),
      ),
    ),
  ),
)
