-- No second answer: two answers that meet a public function's contract for the same input are equal. Stated over the contracts
-- themselves.
-- Assumes nothing.
use mathlib.Core.Path.{refl, sym, ◌∙◌}
use Rattle.runs.proofs.One.{One}
use Rattle.refusals.proofs.number.Kinds as number-kinds
use Rattle.refusals.proofs.number.Reads as number-reads
use Rattle.refusals.proofs.U8FromRefusal.from.Kinds as from-kinds
use Rattle.refusals.proofs.U8FromRefusal.from.Reads as from-reads

pub number_one : One number-kinds.ps number-kinds.r number-reads.Pre number-reads.Post
number_one κs a x y v w pre p q = (p ∙ sym q, refl)

pub from_one : One from-kinds.ps from-kinds.r from-reads.Pre from-reads.Post
from_one κs a x y v w pre p q = (p ∙ sym q, refl)
