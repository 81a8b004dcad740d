-- `sender::judge::values_refused` meets its contract.
-- Assumes nothing.
use Rattle.std.proofs.Common.{◌∙◌}
use Rattle.std.proofs.lemmas.Bool.{le-leb}
use Rattle.sender.proofs.Laws.{samples_refused, ancillary_refused}
use Rattle.sender.proofs.judge.values_refused.Goals as goal

pub returns-then-format-bits : goal.returns-then-format-bits
returns-then-format-bits c =
    le-leb _ _ c.if-format-bits.true
    ∙ samples_refused c.args.format c.args.ancillary.now c.united-bits.ensures.0 c.requires.0 c.if-format-bits.true

pub returns-else-format-bits : goal.returns-else-format-bits
returns-else-format-bits c =
    ancillary_refused c.args.format c.args.ancillary.now c.united-bits.ensures.0 c.requires.0
    c.if-format-bits.false c.requires.1 c.united-bits.ensures.1 c.from.ensures
