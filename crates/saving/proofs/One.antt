-- No second answer: whatever answer and outputs at exit meet the contract of a public function are equal. Stated over the
-- contract itself.
-- Assumes nothing.
use mathlib.Core.Path.{sym, ◌∙◌}
use Rattle.runs.proofs.One.{One}
use Rattle.saving.proofs.salvage.Kinds as salvage-kinds
use Rattle.saving.proofs.salvage.Reads as salvage-reads

pub salvage_one : One salvage-kinds.ps salvage-kinds.r salvage-reads.Pre salvage-reads.Post
salvage_one κs a x y v w pre p q = (
  p.answered ∙ sym q.answered,
  λ i. (tt, ((p.out_after ∙ sym q.out_after) i, ((p.list_after ∙ sym q.list_after) i, tt))),
)
