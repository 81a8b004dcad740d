-- No second answer meets the contract of the salvage's call. Stated over the contract itself.
-- Assumes nothing.
use mathlib.Core.Path.{sym, ◌∙◌}
use Rattle.runs.proofs.One.{One}
use Rattle.rimesatchel.proofs.salvages.rime_salvage.Kinds as salvage-kinds
use Rattle.rimesatchel.proofs.salvages.rime_salvage.Reads as salvage-reads

pub rime_salvage_one : One salvage-kinds.ps salvage-kinds.r salvage-reads.Pre salvage-reads.Post
rime_salvage_one κs a x y v w pre p q = (
  p.refused ∙ sym q.refused,
  λ i. (
    tt,
    (
      (p.salvages.out_after ∙ sym q.salvages.out_after) i,
      ((p.salvages.list_after ∙ sym q.salvages.list_after) i, ((p.counted ∙ sym q.counted) i, tt)),
    ),
  ),
)
