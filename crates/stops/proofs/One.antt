-- No second answer: whatever answer and lent run at exit meet the contract of a public function are equal. Stated over the contracts
-- themselves.
-- Assumes nothing.
use mathlib.Core.Path.{refl, sym, ◌∙◌}
use Rattle.runs.proofs.One.{One}
use Rattle.stops.proofs.keep.Kinds as keep-kinds
use Rattle.stops.proofs.keep.Reads as keep-reads
use Rattle.stops.proofs.kept.Kinds as kept-kinds
use Rattle.stops.proofs.kept.Reads as kept-reads
use Rattle.stops.proofs.of.Kinds as of-kinds
use Rattle.stops.proofs.of.Reads as of-reads
use Rattle.stops.proofs.put_line.Kinds as put-line-kinds
use Rattle.stops.proofs.put_line.Reads as put-line-reads

pub of_one : One of-kinds.ps of-kinds.r of-reads.Pre of-reads.Post
of_one κs a x y v w pre p q = (p ∙ sym q, refl)

pub put_line_one : One put-line-kinds.ps put-line-kinds.r put-line-reads.Pre put-line-reads.Post
put_line_one κs a x y v w pre p q = (p.printed ∙ sym q.printed, λ i. (tt, ((p.wrote ∙ sym q.wrote) i, tt)))

pub keep_one : One keep-kinds.ps keep-kinds.r keep-reads.Pre keep-reads.Post
keep_one κs a x y v w pre p q = (refl, λ i. ((p ∙ sym q) i, (tt, (tt, tt))))

pub kept_one : One kept-kinds.ps kept-kinds.r kept-reads.Pre kept-reads.Post
kept_one κs a x y v w pre p q = (p ∙ sym q, refl)
