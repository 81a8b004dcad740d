-- No second answer: two answers that meet a public function's contract for the same inputs are equal. Stated over the contracts
-- themselves.
-- Assumes nothing.
use mathlib.Core.Path.{refl, sym, ◌∙◌}
use Rattle.runs.proofs.One.{One}
use Rattle.guards.proofs.of_ten.Kinds as of_ten-kinds
use Rattle.guards.proofs.of_ten.Reads as of_ten-reads
use Rattle.guards.proofs.sevens.Kinds as sevens-kinds
use Rattle.guards.proofs.sevens.Reads as sevens-reads

pub of_ten_one : One of_ten-kinds.ps of_ten-kinds.r of_ten-reads.Pre of_ten-reads.Post
of_ten_one κs a x y v w pre p q = (p ∙ sym q, refl)

pub sevens_one : One sevens-kinds.ps sevens-kinds.r sevens-reads.Pre sevens-reads.Post
sevens_one κs a x y v w pre p q = (p ∙ sym q, refl)
