-- `listing::parts::fault_lines` meets its contract.
-- Assumes nothing.
use Rattle.text.proofs.Laws.{puts_same}
use Rattle.listing.proofs.Texts.{fault_refused, fault_broken}
use Rattle.listing.proofs.parts.fault_lines.Goals as goal

pub returns-then-standing-eq2 : goal.returns-then-standing-eq2
returns-then-standing-eq2 c = puts_same (fault_refused _ _ _ c.if-standing-eq2.true) c.log_refused_line.ensures

pub returns : goal.returns
returns c = puts_same (fault_broken _ _ _ c.if-standing-eq2.false) c.end_lines.ensures
