-- No second answer: whatever answer and lent array at exit meet the contract of one of the log's calls are equal. Stated over the
-- contracts themselves.
-- Assumes nothing.
use mathlib.Core.Path.{sym, ◌∙◌}
use Rattle.runs.proofs.One.{One}
use Rattle.rimesatchel.proofs.logs.rime_log_header.Kinds as header-kinds
use Rattle.rimesatchel.proofs.logs.rime_log_header.Reads as header-reads
use Rattle.rimesatchel.proofs.logs.rime_log_record.Kinds as record-kinds
use Rattle.rimesatchel.proofs.logs.rime_log_record.Reads as record-reads

pub header_one : One header-kinds.ps header-kinds.r header-reads.Pre header-reads.Post
header_one κs a x y v w pre p q = (p.0 ∙ sym q.0, λ i. (tt, ((p.1 ∙ sym q.1) i, tt)))

pub record_one : One record-kinds.ps record-kinds.r record-reads.Pre record-reads.Post
record_one κs a x y v w pre p q = (p.0 ∙ sym q.0, λ i. (tt, (tt, ((p.1 ∙ sym q.1) i, tt))))
