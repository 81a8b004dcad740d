-- Where `rime_status_run` and the calls over many records refuse, and what they answer then: laws over the definitions.
-- Assumes nothing.
use mathlib.Core.Bool.{Bool, true, false, cond, not, ◌||◌}
use mathlib.Core.List.{List, []}
use mathlib.Core.Path.{◌≡◌, refl, sym, ◌∙◌, ap}
use Prim.Native.Nat.{ℕ, zero, suc, ◌+◌}
use borrow.Author.Tests.{eqb-true, ne_eqb}
use lib.Dec.{eqb, ltb}
use lib.ListN.{length, get_or}
use Rattle.runs.proofs.Laws.{split}
use Rattle.receiver.specs.declared.Receiver.{Receiver}
use Rattle.receiver.specs.Receiver as R
use Rattle.status.specs.Run.{Ran, is_last, ran_from, ran_not, as_whole, ran_of}
use Rattle.status.specs.Step.{Stepped, step_of, is_refused}
use Rattle.status.specs.declared.step.Block.{Block}
use Rattle.status.proofs.Refused.{step_refusal_lem}
use Rattle.hearing.specs.Judging.{judged_over, judged_not, reports_given}
use Rattle.hearing.specs.Receiving.{call_refusal, begun_as, received_over, column_given}
use Rattle.reading.specs.Heard.{Heard}
use Rattle.sender.specs.declared.Sender.{Sender}
use Rattle.sender.specs.Many.{batch_refusal, batch_not, batch_over, log_after}
use Rattle.rimesatchel.specs.Statuses.{block_of}
use Rattle.pages.specs.Papers.{refused_from, run_refusal}

module _ (step : ℕ) (ancillary marks : List ℕ) where
  -- what a step says of the call, and what the steps after it say
  abbrev after : Stepped → ℕ → Ran → Ran
  after s next more = cond (is_last s) (record { stepped = s; next = next }) more

  one_more : (s : Stepped) (next : ℕ) (more : Ran) (refused : Bool) (rest : ℕ) → s.handed.refusal ≡ cond refused 14 0
      → more.stepped.handed.refusal ≡ rest
      → (after s next more).stepped.handed.refusal ≡ cond refused 14 (cond (eqb s.handed.answer 0) rest 0)
  one_more s next more true rest said others =
      let last : is_last s ≡ true = rw said in
      ap (λ (b : Bool). (cond b (record { stepped = s; next = next }) more).stepped.handed.refusal) last ∙ said
  one_more s next more false rest said others =
      split (eqb s.handed.answer 0)
      (λ e.
      let on : is_last s ≡ false = rw (said, e) in
      ap (λ (b : Bool). (cond b (record { stepped = s; next = next }) more).stepped.handed.refusal) on ∙ rw e others)
      (λ e.
      let last : is_last s ≡ true = rw (said, e) in
      ap (λ (b : Bool). (cond b (record { stepped = s; next = next }) more).stepped.handed.refusal) last ∙ said ∙ rw e)

  from_refusal : (n : ℕ) (block : Block) (at : ℕ) → (ran_from step ancillary marks n block at).stepped.handed.refusal
      ≡ refused_from step ancillary marks n block at
  unfolding ran_from refused_from
  from_refusal zero block at = refl
  from_refusal (suc n) block at =
      let s = step_of block (get_or ancillary at 0) (get_or marks at 0) in
      let here = one_more s (at + step) (ran_from step ancillary marks n s.block (at + step))
      (is_refused block.bits (get_or ancillary at 0) (get_or marks at 0)) (refused_from step ancillary marks n s.block (at + step))
      (step_refusal_lem block (get_or ancillary at 0) (get_or marks at 0)) (from_refusal n s.block (at + step)) in
      split (ltb at (length ancillary)) (λ e. rw e here) (λ e. rw e)

whole_refusal : (block : Block) (ran : Ran) → (as_whole block ran).stepped.handed.refusal ≡ ran.stepped.handed.refusal
whole_refusal block ran = split (eqb ran.stepped.handed.refusal 0) (λ e. rw e) (λ e. rw e)

pub run_refusal_lem : (block ancillary marks : List ℕ) (from step : ℕ)
    → (ran_of (block_of block) ancillary marks from step).stepped.handed.refusal ≡ run_refusal block ancillary marks from step
unfolding ran_of
run_refusal_lem block ancillary marks from step =
    split (not (eqb (length ancillary) (length marks)) || eqb step 0)
    (λ e. rw e)
    (λ e. rw e (whole_refusal (block_of block) (ran_from step ancillary marks (length ancillary) (block_of block) from)
    ∙ from_refusal step ancillary marks (length ancillary) (block_of block) from))

-- refused, the block stays, nothing goes out, and the next entry is 0
pub run_refused : (block : Block) (ancillary marks : List ℕ) (from step : ℕ)
    → ((ran_of block ancillary marks from step).stepped.handed.refusal ≡ 0 → ⊥)
    → ran_of block ancillary marks from step ≡ ran_not (ran_of block ancillary marks from step).stepped.handed.refusal block
unfolding ran_of
run_refused block ancillary marks from step some =
    split (not (eqb (length ancillary) (length marks)) || eqb step 0) (λ e. rw e)
    (λ e.
    let ran = ran_from step ancillary marks (length ancillary) block from in
    split (eqb ran.stepped.handed.refusal 0)
    (λ none. absurd (some (rw (e, none) (eqb-true _ 0 none))))
    (λ other. rw (e, other)))

module _ (st : Receiver) (log : List ℕ) (place room : ℕ) where
  pub judge_refusal : (judged_over st log place room).refusal ≡ R.state_refusal st
  judge_refusal = split (eqb (R.state_refusal st) 0) (λ e. rw e (sym (eqb-true _ 0 e))) (λ e. rw e)

  -- refused, nothing is judged and nothing is told
  pub judge_refused : (R.state_refusal st ≡ 0 → ⊥) → judged_over st log place room ≡ judged_not (R.state_refusal st) st
  judge_refused some = rw (ne_eqb (R.state_refusal st) 0 some)

  pub none_reported : (R.state_refusal st ≡ 0 → ⊥) → reports_given st log place room ≡ []
  none_reported some = rw (ne_eqb (R.state_refusal st) 0 some)

module _ (st : Receiver) (log : List ℕ) (place samples ancillary marks : ℕ) where
  pub receive_log_refusal : (received_over st log place samples ancillary marks).refusal ≡ call_refusal st samples ancillary marks
  receive_log_refusal = split (eqb (call_refusal st samples ancillary marks) 0) (λ e. rw e (sym (eqb-true _ 0 e))) (λ e. rw e)

  -- refused, nothing is received and nothing is counted
  pub receive_log_refused : (call_refusal st samples ancillary marks ≡ 0 → ⊥)
      → received_over st log place samples ancillary marks ≡ begun_as (call_refusal st samples ancillary marks) st 0
  receive_log_refused some = rw (ne_eqb (call_refusal st samples ancillary marks) 0 some)

  pub none_received : (column : List Heard → List ℕ) → (call_refusal st samples ancillary marks ≡ 0 → ⊥)
      → column_given column st log place samples ancillary marks ≡ []
  none_received column some = rw (ne_eqb (call_refusal st samples ancillary marks) 0 some)

module _ (indications : Bool) (st : Sender) (samples ancillary log : List ℕ) (place : ℕ) where
  pub send_log_refusal : (batch_over indications st samples ancillary log place).refusal ≡ batch_refusal st samples ancillary
  send_log_refusal = split (eqb (batch_refusal st samples ancillary) 0) (λ e. rw e (sym (eqb-true _ 0 e))) (λ e. rw e)

  -- refused, nothing is sent and nothing is counted
  pub send_log_refused : (batch_refusal st samples ancillary ≡ 0 → ⊥)
      → batch_over indications st samples ancillary log place ≡ batch_not (batch_refusal st samples ancillary) st
  send_log_refused some = rw (ne_eqb (batch_refusal st samples ancillary) 0 some)

  pub none_sent : (batch_refusal st samples ancillary ≡ 0 → ⊥) → log_after indications st samples ancillary log place ≡ log
  none_sent some = rw (ne_eqb (batch_refusal st samples ancillary) 0 some)
