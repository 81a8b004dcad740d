-- Laws of where standard input stands, over plain values: what a step within a log and one behind a refusal are.
-- Assumes nothing.
use Rattle.std.proofs.Common.{◌≡◌, ℕ, ◌-◌, ◌<◌, false, sym, ◌∙◌, eq-eqb, ne_eqb}
use borrow.Author.Tests.{lt-leb}
use Rattle.table.specs.declared.Input.{Input}
use Rattle.table.specs.declared.logs.Step.{Step}
use Rattle.table.specs.Taking.{left_of, log_step, step_of}

-- octets of a log
module _ (i : Input) (room : ℕ) where
  pub log_goes_lem : room < i.left
      → record { input = left_of i (i.left - room); octets = room; used = room; whole = false } ≡ log_step i room
  unfolding log_step
  log_goes_lem beyond = sym (rw (lt-leb i.left room beyond))

-- what is ahead
module _ (i : Input) (octet room : ℕ) where
  pub ahead_none : (i.refusal ≡ 0 → ⊥) → record { input = i; octets = 0; used = room; whole = false } ≡ step_of i octet room
  unfolding step_of
  ahead_none some = sym (rw (ne_eqb i.refusal 0 some))

  module _ (none : i.refusal ≡ 0) where
    pub ahead_log : {r : Step} → (i.left ≡ 0 → ⊥) → r ≡ log_step i room → r ≡ step_of i octet room
    unfolding step_of
    ahead_log some e = e ∙ sym (rw (eq-eqb i.refusal 0 none, ne_eqb i.left 0 some))
