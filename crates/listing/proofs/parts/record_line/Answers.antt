-- `listing::parts::record_line` meets its contract.
-- Assumes nothing.
use Rattle.text.proofs.Laws.{puts_same}
use Rattle.listing.proofs.Texts.{line_sound, line_refused}
use Rattle.listing.proofs.parts.record_line.Goals as goal

pub returns-then-got-eq0 : goal.returns-then-got-eq0
returns-then-got-eq0 c = puts_same (line_sound c.args.index c.args.got c.if-got-eq0.true) c.sound_line.ensures

pub returns : goal.returns
returns c = puts_same (line_refused c.args.index c.args.got c.if-got-eq0.false) c.refused_line.ensures
