-- No second answer: two answers, and two contents of each lent run at exit, that meet a public function's contract for the same inputs
-- are equal. Stated over the contracts themselves.
-- Assumes nothing.
use mathlib.Core.Path.{sym, ◌∙◌}
use Rattle.runs.proofs.One.{One}
use Rattle.units.proofs.export_units.Kinds as export-kinds
use Rattle.units.proofs.export_units.Reads as export-reads
use Rattle.units.proofs.read_unit.Kinds as read-kinds
use Rattle.units.proofs.read_unit.Reads as read-reads

pub export_units_one : One export-kinds.ps export-kinds.r export-reads.Pre export-reads.Post
export_units_one κs a x y v w pre p q =
    (p.answered ∙ sym q.answered, λ i. (tt, (tt, (tt, (tt, (tt, ((p.out_after ∙ sym q.out_after) i, tt)))))))

pub read_unit_one : One read-kinds.ps read-kinds.r read-reads.Pre read-reads.Post
read_unit_one κs a x y v w pre p q = (
  p.answered ∙ sym q.answered,
  λ i. (
    tt,
    (
      tt,
      (
        tt,
        ((p.samples_after ∙ sym q.samples_after) i, ((p.ancillary_after ∙ sym q.ancillary_after) i, tt)),
      ),
    ),
  ),
)
