-- No second answer: whatever answer, lent array and lent runs at exit meet the contract of a public function are equal. Stated over
-- the contracts themselves.
-- Assumes nothing.
use Rattle.std.proofs.Common.{sym, refl, ◌∙◌}
use Rattle.runs.proofs.One.{One}
use Rattle.salvaging.proofs.end.Kinds as end-kinds
use Rattle.salvaging.proofs.end.Reads as end_reads
use Rattle.salvaging.proofs.start.Kinds as start-kinds
use Rattle.salvaging.proofs.start.Reads as start-reads
use Rattle.salvaging.proofs.take.Kinds as take-kinds
use Rattle.salvaging.proofs.take.Reads as take-reads

pub start_one : One start-kinds.ps start-kinds.r start-reads.Pre start-reads.Post
start_one κs a x y v w pre p q = (p ∙ sym q, refl)

pub take_one : One take-kinds.ps take-kinds.r take-reads.Pre take-reads.Post
take_one κs a x y v w pre p q = (
  λ i. record {
    saved = (p.saved ∙ sym q.saved) i;
    noted = (p.noted ∙ sym q.noted) i;
    salvaging = (p.goes_on ∙ sym q.goes_on) i;
  },
  λ i. (
    tt,
    (
      (p.holds ∙ sym q.holds) i,
      (tt, ((p.wrote_out ∙ sym q.wrote_out) i, ((p.wrote_notes ∙ sym q.wrote_notes) i, tt))),
    ),
  ),
)

pub end_one : One end-kinds.ps end-kinds.r end_reads.Pre end_reads.Post
end_one κs a x y v w pre p q = (p.noted ∙ sym q.noted, λ i. (tt, (tt, ((p.wrote_notes ∙ sym q.wrote_notes) i, tt))))
