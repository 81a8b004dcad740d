-- No second answer: two answers that meet a public function's contract for the same inputs are equal. Stated over the contracts
-- themselves.
-- Assumes nothing.
use Rattle.std.proofs.Common.{sym, refl, ◌∙◌}
use Rattle.runs.proofs.One.{One}
use Rattle.cells.proofs.next_place.Kinds as next-place-kinds
use Rattle.cells.proofs.next_place.Reads as next-place-reads
use Rattle.cells.proofs.turned_two.Kinds as turned-two-kinds
use Rattle.cells.proofs.turned_two.Reads as turned-two-reads
use Rattle.cells.proofs.turned_four.Kinds as turned-four-kinds
use Rattle.cells.proofs.turned_four.Reads as turned-four-reads

pub next_place_one : One next-place-kinds.ps next-place-kinds.r next-place-reads.Pre next-place-reads.Post
next_place_one κs a x y v w pre p q = (p ∙ sym q, refl)

pub turned_two_one : One turned-two-kinds.ps turned-two-kinds.r turned-two-reads.Pre turned-two-reads.Post
turned_two_one κs a x y v w pre p q = (p.0 ∙ sym q.0, refl)

pub turned_four_one : One turned-four-kinds.ps turned-four-kinds.r turned-four-reads.Pre turned-four-reads.Post
turned_four_one κs a x y v w pre p q = (p.0 ∙ sym q.0, refl)
