-- No second answer: whatever answers meet the public function's contract for the same inputs are equal. Stated over the contract
-- itself.
-- Assumes nothing.
use mathlib.Core.Path.{refl, sym, ◌∙◌}
use Rattle.runs.proofs.One.{One}
use Rattle.glance.proofs.sounds.Kinds as sounds-kinds
use Rattle.glance.proofs.sounds.Reads as sounds-reads

pub sounds_one : One sounds-kinds.ps sounds-kinds.r sounds-reads.Pre sounds-reads.Post
sounds_one κs a x y v w pre p q = (p ∙ sym q, refl)
