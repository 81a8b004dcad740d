-- `management::octets::number` meets its contract.
-- Assumes nothing.
use mathlib.Core.Path.{◌∙◌}
use Rattle.management.proofs.Parts.{pair_number}
use Rattle.management.proofs.octets.number.Goals as goal

pub returns : goal.returns
returns c = c.from.ensures ∙ c.from_be_bytes.ensures ∙ pair_number c.args.octets c.well_formed.0.1.0.1
