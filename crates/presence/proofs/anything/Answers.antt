-- `presence::anything` meets its contract.
-- Assumes nothing.
use Rattle.std.proofs.Common.{refl, sym, ap, ◌∙◌}
use Rattle.refusals.proofs.Laws.{number_not_0}
use Rattle.presence.specs.Presence.{refused_by}
use Rattle.presence.proofs.Walks.{header_refused, header_taken}
use Rattle.presence.proofs.anything.Goals as goal

pub returns-in-Ok : goal.returns-in-Ok
returns-in-Ok c = c.records.ensures ∙ header_taken _ c.in-Ok.ensures refl

pub returns-in-Err : goal.returns-in-Err
returns-in-Err c = ap refused_by c.into.ensures ∙ header_refused _ c.in-Err.ensures (number_not_0 _)
