-- No second answer: whatever answers, and contents of the lent array at exit, meet a public function's contract for the
-- same inputs are equal. Stated over the contracts themselves.
-- Assumes nothing.
use Rattle.std.proofs.Common.{sym, refl, ◌∙◌}
use Rattle.runs.proofs.One.{One}
use Rattle.presence.proofs.anything.Kinds as anything-kinds
use Rattle.presence.proofs.anything.Reads as anything-reads
use Rattle.presence.proofs.end.Kinds as end-kinds
use Rattle.presence.proofs.end.Reads as end_reads
use Rattle.presence.proofs.put_line.Kinds as put-line-kinds
use Rattle.presence.proofs.put_line.Reads as put-line-reads
use Rattle.presence.proofs.reads_on.Kinds as reads-on-kinds
use Rattle.presence.proofs.reads_on.Reads as reads-on-reads
use Rattle.presence.proofs.start.Kinds as start-kinds
use Rattle.presence.proofs.start.Reads as start-reads
use Rattle.presence.proofs.take.Kinds as take-kinds
use Rattle.presence.proofs.take.Reads as take-reads

pub anything_one : One anything-kinds.ps anything-kinds.r anything-reads.Pre anything-reads.Post
anything_one κs a x y v w pre p q = (p ∙ sym q, refl)

pub start_one : One start-kinds.ps start-kinds.r start-reads.Pre start-reads.Post
start_one κs a x y v w pre p q = (p ∙ sym q, refl)

pub reads_on_one : One reads-on-kinds.ps reads-on-kinds.r reads-on-reads.Pre reads-on-reads.Post
reads_on_one κs a x y v w pre p q = (p ∙ sym q, refl)

pub take_one : One take-kinds.ps take-kinds.r take-reads.Pre take-reads.Post
take_one κs a x y v w pre p q = (p.goes_on ∙ sym q.goes_on, λ i. (tt, ((p.holds ∙ sym q.holds) i, (tt, tt))))

pub end_one : One end-kinds.ps end-kinds.r end_reads.Pre end_reads.Post
end_one κs a x y v w pre p q = (p ∙ sym q, refl)

pub put_line_one : One put-line-kinds.ps put-line-kinds.r put-line-reads.Pre put-line-reads.Post
put_line_one κs a x y v w pre p q = (p.printed ∙ sym q.printed, λ i. (tt, ((p.wrote ∙ sym q.wrote) i, tt)))
