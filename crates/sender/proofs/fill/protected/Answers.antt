-- `sender::fill::protected` meets its contract.
-- Assumes nothing.
use Rattle.std.proofs.Common.{arith}
use Rattle.sender.proofs.Subframes.{nine_alone, nine_and_v}
use Rattle.sender.proofs.fill.protected.Goals as goal

pub returns-then-ancillary_bits-eq0 : goal.returns-then-ancillary_bits-eq0
returns-then-ancillary_bits-eq0 c = (nine_alone c.args.nine c.if-ancillary_bits-eq0.true, omega arith)

pub returns : goal.returns
returns c = (nine_and_v c.args.nine c.if-ancillary_bits-eq0.false, omega arith)
