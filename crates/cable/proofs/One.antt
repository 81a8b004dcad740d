-- No second answer: two answers that meet a public function's contract for the same inputs are equal. Stated over the contracts
-- themselves.
-- Assumes nothing.
use mathlib.Core.Path.{refl, sym, ◌∙◌}
use Rattle.runs.proofs.One.{One}
use Rattle.cable.proofs.Answered.{import_injective, export_injective}
use Rattle.cable.proofs.import_frame.Kinds as import-kinds
use Rattle.cable.proofs.import_frame.Reads as import-reads
use Rattle.cable.proofs.export_frame.Kinds as export-kinds
use Rattle.cable.proofs.export_frame.Reads as export-reads

pub import_one : One import-kinds.ps import-kinds.r import-reads.Pre import-reads.Post
import_one κs a x y v w pre p q = (import_injective x y (p ∙ sym q), refl)

pub export_one : One export-kinds.ps export-kinds.r export-reads.Pre export-reads.Post
export_one κs a x y v w pre p q = (export_injective x y (p ∙ sym q), refl)
