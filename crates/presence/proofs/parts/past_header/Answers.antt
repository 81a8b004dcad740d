-- `presence::parts::past_header` meets its contract.
-- Assumes nothing.
use Rattle.std.proofs.Common.{false, ap, ◌∙◌}
use Rattle.receiver.specs.declared.Ready.{Ready}
use Rattle.presence.specs.declared.Sought.{Sought}
use Rattle.presence.specs.Taking.{fresh_sought}
use Rattle.presence.proofs.parts.past_header.Goals as goal

abbrev sought_of_lem : Ready → Sought
sought_of_lem opened = record { state = opened.state; refusal = 0; found = false; number = 0 }

pub returns : goal.returns
returns c = ap sought_of_lem c.opened.ensures ∙ ap fresh_sought c.header_numbers-header.ensures
