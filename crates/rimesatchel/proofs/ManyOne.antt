-- No second answer: whatever answer and lent arrays and runs at exit meet the contract of sending many cells are equal. Stated over the
-- contract itself.
-- Assumes nothing.
use mathlib.Core.Path.{sym, ◌∙◌}
use Rattle.runs.proofs.One.{One}
use Rattle.rimesatchel.proofs.many.rime_send_log.Kinds as send-log-kinds
use Rattle.rimesatchel.proofs.many.rime_send_log.Reads as send-log-reads

pub send_log_one : One send-log-kinds.ps send-log-kinds.r send-log-reads.Pre send-log-reads.Post
send_log_one κs a x y v w pre p q = (
  p.refused ∙ sym q.refused,
  λ i. (
    (p.leaves ∙ sym q.leaves) i,
    (tt, (tt, (tt, ((p.writes ∙ sym q.writes) i, (tt, ((p.counted ∙ sym q.counted) i, tt)))))),
  ),
)
