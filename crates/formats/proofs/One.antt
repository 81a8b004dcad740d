-- No second answer: two answers that meet a public function's contract for the same inputs are equal. Stated over the contracts
-- themselves.
-- Assumes nothing.
use mathlib.Core.Path.{refl, sym, ◌∙◌}
use Rattle.runs.proofs.One.{One}
use Rattle.formats.proofs.Laws.{answered_injective, settled_injective}
use Rattle.formats.proofs.settings.Kinds as settings-kinds
use Rattle.formats.proofs.settings.Reads as settings-reads
use Rattle.formats.proofs.is_usual.Kinds as is-usual-kinds
use Rattle.formats.proofs.is_usual.Reads as is-usual-reads
use Rattle.formats.proofs.usual.Kinds as usual-kinds
use Rattle.formats.proofs.usual.Reads as usual-reads

pub settings_one : One settings-kinds.ps settings-kinds.r settings-reads.Pre settings-reads.Post
settings_one κs a x y v w pre p q = (answered_injective (p ∙ sym q), refl)

pub is_usual_one : One is-usual-kinds.ps is-usual-kinds.r is-usual-reads.Pre is-usual-reads.Post
is_usual_one κs a x y v w pre p q = (p ∙ sym q, refl)

pub usual_one : One usual-kinds.ps usual-kinds.r usual-reads.Pre usual-reads.Post
usual_one κs a x y v w pre p q = (settled_injective (p ∙ sym q), refl)
