-- No second answer: whatever answer and lent array at exit meet the contract of the call that asks what a log holds are equal. Stated
-- over the contract itself.
-- Assumes nothing.
use mathlib.Core.Path.{sym, ◌∙◌}
use Rattle.runs.proofs.One.{One}
use Rattle.rimesatchel.proofs.contents.rime_anything.Kinds as anything-kinds
use Rattle.rimesatchel.proofs.contents.rime_anything.Reads as anything-reads

pub anything_one : One anything-kinds.ps anything-kinds.r anything-reads.Pre anything-reads.Post
anything_one κs a x y v w pre p q = (p.0 ∙ sym q.0, λ i. (tt, ((p.1 ∙ sym q.1) i, tt)))
