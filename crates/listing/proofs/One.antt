-- No second answer: whatever answer, lent array and lent run at exit meet the contract of a public function are equal. Stated over
-- the contracts themselves.
-- Assumes nothing.
use Rattle.std.proofs.Common.{sym, refl, ◌∙◌}
use Rattle.runs.proofs.One.{One}
use Rattle.text.proofs.One.{same_past, same_run}
use Rattle.listing.proofs.end.Kinds as end-kinds
use Rattle.listing.proofs.end.Reads as end_reads
use Rattle.listing.proofs.lines.log_refused_line.Kinds as log-refused-line-kinds
use Rattle.listing.proofs.lines.log_refused_line.Reads as log-refused-line-reads
use Rattle.listing.proofs.lines.refused_line.Kinds as refused-line-kinds
use Rattle.listing.proofs.lines.refused_line.Reads as refused-line-reads
use Rattle.listing.proofs.reads_on.Kinds as reads-on-kinds
use Rattle.listing.proofs.reads_on.Reads as reads-on-reads
use Rattle.listing.proofs.start.Kinds as start-kinds
use Rattle.listing.proofs.start.Reads as start-reads
use Rattle.listing.proofs.start_longest.Kinds as start-longest-kinds
use Rattle.listing.proofs.start_longest.Reads as start-longest-reads
use Rattle.listing.proofs.take.Kinds as take-kinds
use Rattle.listing.proofs.take.Reads as take-reads

pub start_one : One start-kinds.ps start-kinds.r start-reads.Pre start-reads.Post
start_one κs a x y v w pre p q = (p ∙ sym q, refl)

pub start_longest_one : One start-longest-kinds.ps start-longest-kinds.r start-longest-reads.Pre start-longest-reads.Post
start_longest_one κs a x y v w pre p q = (p ∙ sym q, refl)

pub reads_on_one : One reads-on-kinds.ps reads-on-kinds.r reads-on-reads.Pre reads-on-reads.Post
reads_on_one κs a x y v w pre p q = (p ∙ sym q, refl)

pub take_one : One take-kinds.ps take-kinds.r take-reads.Pre take-reads.Post
take_one κs a x y v w pre p q = (
  λ i. record { listed = (p.printed ∙ sym q.printed) i; listing = (p.goes_on ∙ sym q.goes_on) i },
  λ i. (tt, ((p.holds ∙ sym q.holds) i, (tt, ((p.wrote ∙ sym q.wrote) i, tt)))),
)

pub end_one : One end-kinds.ps end-kinds.r end_reads.Pre end_reads.Post
end_one κs a x y v w pre p q = (p.printed ∙ sym q.printed, λ i. (tt, (tt, ((p.wrote ∙ sym q.wrote) i, tt))))

pub refused_line_one : One refused-line-kinds.ps refused-line-kinds.r refused-line-reads.Pre refused-line-reads.Post
refused_line_one κs a x y v w pre p q = (same_past p q, λ i. (same_run p q i, (tt, (tt, (tt, tt)))))

pub log_refused_line_one : One log-refused-line-kinds.ps log-refused-line-kinds.r log-refused-line-reads.Pre log-refused-line-reads.Post
log_refused_line_one κs a x y v w pre p q = (same_past p q, λ i. (same_run p q i, (tt, (tt, tt))))
