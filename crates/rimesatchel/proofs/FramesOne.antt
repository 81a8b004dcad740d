-- No second answer meets the contracts of the AES3 cable's calls. Stated over the contracts themselves.
-- Assumes nothing.
use mathlib.Core.Path.{sym, ◌∙◌}
use Rattle.runs.proofs.One.{One}
use Rattle.rimesatchel.proofs.frames.rime_aes3_import.Kinds as import-kinds
use Rattle.rimesatchel.proofs.frames.rime_aes3_import.Reads as import-reads
use Rattle.rimesatchel.proofs.frames.rime_aes3_export.Kinds as export-kinds
use Rattle.rimesatchel.proofs.frames.rime_aes3_export.Reads as export-reads

pub rime_aes3_import_one : One import-kinds.ps import-kinds.r import-reads.Pre import-reads.Post
rime_aes3_import_one κs a x y v w pre p q = (
  p.refused ∙ sym q.refused,
  λ i. (tt, (tt, ((p.the_samples ∙ sym q.the_samples) i, ((p.the_ancillary ∙ sym q.the_ancillary) i, tt)))),
)

pub rime_aes3_export_one : One export-kinds.ps export-kinds.r export-reads.Pre export-reads.Post
rime_aes3_export_one κs a x y v w pre p q = (
  p.refused ∙ sym q.refused,
  λ i. (tt, (tt, ((p.the_preambles ∙ sym q.the_preambles) i, ((p.the_subframes ∙ sym q.the_subframes) i, tt)))),
)
