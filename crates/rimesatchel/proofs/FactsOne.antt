-- No second answer: whatever answer and lent array at exit meet the contract of the call on a format are equal. Stated over the
-- contract itself.
-- Assumes nothing.
use mathlib.Core.Path.{sym, ◌∙◌}
use Rattle.runs.proofs.One.{One}
use Rattle.rimesatchel.proofs.facts.rime_format.Kinds as format-kinds
use Rattle.rimesatchel.proofs.facts.rime_format.Reads as format-reads

pub format_one : One format-kinds.ps format-kinds.r format-reads.Pre format-reads.Post
format_one κs a x y v w pre p q = (p.0 ∙ sym q.0, λ i. (tt, ((p.1 ∙ sym q.1) i, tt)))
