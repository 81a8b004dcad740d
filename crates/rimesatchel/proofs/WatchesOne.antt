-- No second answer meets the contract of the exported function of the watch.
-- Assumes nothing.
use mathlib.Core.Path.{sym, ◌∙◌}
use Rattle.runs.proofs.One.{One}
use Rattle.rimesatchel.proofs.watches.rime_slip.Kinds as slip-kinds
use Rattle.rimesatchel.proofs.watches.rime_slip.Reads as slip-reads

pub rime_slip_one : One slip-kinds.ps slip-kinds.r slip-reads.Pre slip-reads.Post
rime_slip_one κs a x y v w pre p q =
    (p.refused ∙ sym q.refused, λ i. ((p.leaves ∙ sym q.leaves) i, (tt, ((p.tells ∙ sym q.tells) i, tt))))
