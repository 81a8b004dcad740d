-- No second answer: whatever answer, lent array and lent runs at exit meet the contract of a public function are equal. Stated over
-- the contracts themselves.
-- Assumes nothing.
use Rattle.std.proofs.Common.{◌≡◌, sym, refl, ◌∙◌}
use Rattle.runs.proofs.One.{One}
use Rattle.table.specs.declared.Ended as code
use Rattle.table.specs.Taking.{end_as}
use Rattle.table.proofs.end.Kinds as end-kinds
use Rattle.table.proofs.end.Reads as end_reads
use Rattle.table.proofs.line.Kinds as line-kinds
use Rattle.table.proofs.line.Reads as line-reads
use Rattle.table.proofs.next_log.Kinds as next-kinds
use Rattle.table.proofs.next_log.Reads as next-reads
use Rattle.table.proofs.open_log.Kinds as open-kinds
use Rattle.table.proofs.open_log.Reads as open-reads
use Rattle.table.proofs.reads_on.Kinds as reads-on-kinds
use Rattle.table.proofs.reads_on.Reads as reads-on-reads
use Rattle.table.proofs.start.Kinds as start-kinds
use Rattle.table.proofs.start.Reads as start-reads
use Rattle.table.proofs.take.Kinds as take-kinds
use Rattle.table.proofs.take.Reads as take-reads

same_end : {x y : code.Ended} → end_as x ≡ end_as y → x ≡ y
same_end e i = record { refusal = (e i).answer.refusal; totals = (e i).answer.totals; logs = (e i).logs; lines = (e i).lines }

pub start_one : One start-kinds.ps start-kinds.r start-reads.Pre start-reads.Post
start_one κs a x y v w pre p q = (p ∙ sym q, refl)

pub take_one : One take-kinds.ps take-kinds.r take-reads.Pre take-reads.Post
take_one κs a x y v w pre p q =
    let same = p.stands ∙ sym q.stands in
    (λ i. (same i).sheet, λ i. (tt, ((same i).held, ((same i).rows, ((same i).kept, (tt, tt))))))

pub reads_on_one : One reads-on-kinds.ps reads-on-kinds.r reads-on-reads.Pre reads-on-reads.Post
reads_on_one κs a x y v w pre p q = (p ∙ sym q, refl)

pub open_log_one : One open-kinds.ps open-kinds.r open-reads.Pre open-reads.Post
open_log_one κs a x y v w pre p q = (p ∙ sym q, refl)

pub next_log_one : One next-kinds.ps next-kinds.r next-reads.Pre next-reads.Post
next_log_one κs a x y v w pre p q = (
  p.goes_on ∙ sym q.goes_on,
  λ i. (tt, (tt, ((p.rows_after ∙ sym q.rows_after) i, ((p.kept_after ∙ sym q.kept_after) i, tt)))),
)

pub end_one : One end-kinds.ps end-kinds.r end_reads.Pre end_reads.Post
end_one κs a x y v w pre p q = (same_end (p ∙ sym q), refl)

pub line_one : One line-kinds.ps line-kinds.r line-reads.Pre line-reads.Post
line_one κs a x y v w pre p q = (
  p.said ∙ sym q.said,
  λ i. ((p.wrote ∙ sym q.wrote) i, (tt, (tt, (tt, tt)))),
)
