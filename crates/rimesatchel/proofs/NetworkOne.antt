-- No second answer meets the contracts of the data units' calls. Stated over the contracts themselves.
-- Assumes nothing.
use mathlib.Core.Path.{sym, ◌∙◌}
use Rattle.runs.proofs.One.{One}
use Rattle.rimesatchel.proofs.network.rime_units_export.Kinds as export-kinds
use Rattle.rimesatchel.proofs.network.rime_units_export.Reads as export-reads
use Rattle.rimesatchel.proofs.network.rime_unit_read.Kinds as read-kinds
use Rattle.rimesatchel.proofs.network.rime_unit_read.Reads as read-reads

pub rime_units_export_one : One export-kinds.ps export-kinds.r export-reads.Pre export-reads.Post
rime_units_export_one κs a x y v w pre p q = (
  p.refused ∙ sym q.refused,
  λ i. (
    tt,
    (
      tt,
      (
        tt,
        (tt, (tt, ((p.writes.out_after ∙ sym q.writes.out_after) i, ((p.tells ∙ sym q.tells) i, tt)))),
      ),
    ),
  ),
)

pub rime_unit_read_one : One read-kinds.ps read-kinds.r read-reads.Pre read-reads.Post
rime_unit_read_one κs a x y v w pre p q = (
  p.refused ∙ sym q.refused,
  λ i. (
    tt,
    (
      tt,
      (
        tt,
        (
          (p.reads.samples_after ∙ sym q.reads.samples_after) i,
          ((p.reads.ancillary_after ∙ sym q.reads.ancillary_after) i, ((p.tells ∙ sym q.tells) i, tt)),
        ),
      ),
    ),
  ),
)
