-- `hearing::states::refusal_of` meets its contract.
-- Assumes nothing.
use mathlib.Core.Path.{sym, ◌∙◌}
use Prim.Native.Nat.{ℕ}
use lib.ListN.{replicate, length-replicate}
use Rattle.hearing.proofs.Asked.{state_refused, state_sound}
use Rattle.hearing.proofs.states.refusal_of.Goals as goal

pub returns-then-is_of_state : goal.returns-then-is_of_state
returns-then-is_of_state c = (state_refused c.args.state (replicate 48 0) (length-replicate {A = ℕ} 48 0) c.judged-asked.ensures
    (sym c.is_of_state.ensures ∙ c.if-is_of_state.true)).0

pub returns-else-is_of_state : goal.returns-else-is_of_state
returns-else-is_of_state c = sym (state_sound c.args.state (replicate 48 0) (length-replicate {A = ℕ} 48 0) c.judged-asked.ensures
    (sym c.is_of_state.ensures ∙ c.if-is_of_state.false))
