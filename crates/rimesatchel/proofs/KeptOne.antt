-- No second answer: whatever answer, lent run and lent numbers at exit meet the contract of a call that writes or lists a log are
-- equal. Stated over the contracts themselves.
-- Assumes nothing.
use mathlib.Core.Path.{sym, ◌∙◌, ap}
use Rattle.runs.proofs.One.{One}
use Rattle.cell_log.specs.Answers.{Kept}
use Rattle.rimesatchel.proofs.kept.rime_log_put_header.Kinds as header-kinds
use Rattle.rimesatchel.proofs.kept.rime_log_put_header.Reads as header-reads
use Rattle.rimesatchel.proofs.kept.rime_log_put_record.Kinds as record-kinds
use Rattle.rimesatchel.proofs.kept.rime_log_put_record.Reads as record-reads
use Rattle.rimesatchel.proofs.kept.rime_log_list.Kinds as list-kinds
use Rattle.rimesatchel.proofs.kept.rime_log_list.Reads as list-reads

pub put_header_one : One header-kinds.ps header-kinds.r header-reads.Pre header-reads.Post
put_header_one κs a x y v w pre p q = (
  ap (λ (k : Kept). k.refusal) (p.answered ∙ sym q.answered),
  λ i. ((p.left ∙ sym q.left) i, (tt, (tt, (tt, (ap (λ (k : Kept). k.next) (p.answered ∙ sym q.answered) i, tt))))),
)

pub put_record_one : One record-kinds.ps record-kinds.r record-reads.Pre record-reads.Post
put_record_one κs a x y v w pre p q = (
  ap (λ (k : Kept). k.refusal) (p.answered ∙ sym q.answered),
  λ i. ((p.left ∙ sym q.left) i, (tt, (tt, (tt, (ap (λ (k : Kept). k.next) (p.answered ∙ sym q.answered) i, tt))))),
)

pub list_one : One list-kinds.ps list-kinds.r list-reads.Pre list-reads.Post
list_one κs a x y v w pre p q = (
  p.refused ∙ sym q.refused,
  λ i. (tt, ((p.left ∙ sym q.left) i, ((p.said ∙ sym q.said) i, tt))),
)
