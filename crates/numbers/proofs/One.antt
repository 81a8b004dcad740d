-- No second answer: two answers that meet a public function's contract for the same inputs are equal. Stated over the contracts
-- themselves.
-- Assumes nothing.
use Rattle.std.proofs.Common.{sym, refl, ◌∙◌}
use Rattle.runs.proofs.One.{One}
use Rattle.numbers.proofs.Laws.{found_as}
use Rattle.numbers.proofs.entry_of.Kinds as entry-of-kinds
use Rattle.numbers.proofs.entry_of.Reads as entry-of-reads
use Rattle.numbers.proofs.number_of.Kinds as number-of-kinds
use Rattle.numbers.proofs.number_of.Reads as number-of-reads
use Rattle.numbers.proofs.sequence_of.Kinds as sequence-of-kinds
use Rattle.numbers.proofs.sequence_of.Reads as sequence-of-reads
use Rattle.numbers.proofs.difference.Kinds as difference-kinds
use Rattle.numbers.proofs.difference.Reads as difference-reads
use Rattle.numbers.proofs.indication_refused.Kinds as indication-refused-kinds
use Rattle.numbers.proofs.indication_refused.Reads as indication-refused-reads

pub entry_of_one : One entry-of-kinds.ps entry-of-kinds.r entry-of-reads.Pre entry-of-reads.Post
entry_of_one κs a x y v w pre p q = (p ∙ sym q, refl)

pub number_of_one : One number-of-kinds.ps number-of-kinds.r number-of-reads.Pre number-of-reads.Post
number_of_one κs a x y v w pre p q = (found_as a.0 x p ∙ sym (found_as a.0 y q), refl)

pub sequence_of_one : One sequence-of-kinds.ps sequence-of-kinds.r sequence-of-reads.Pre sequence-of-reads.Post
sequence_of_one κs a x y v w pre p q = (p ∙ sym q, refl)

pub difference_one : One difference-kinds.ps difference-kinds.r difference-reads.Pre difference-reads.Post
difference_one κs a x y v w pre p q = (p ∙ sym q, refl)

pub indication_refused_one : One indication-refused-kinds.ps indication-refused-kinds.r indication-refused-reads.Pre indication-refused-reads.Post
indication_refused_one κs a x y v w pre p q = (p ∙ sym q, refl)
