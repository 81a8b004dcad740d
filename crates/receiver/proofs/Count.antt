-- The count of cells placed: what a call adds to it, and where 20 is given.
-- Assumes nothing.
use mathlib.Core.Bool.{Bool, false, cond}
use mathlib.Core.List.{List}
use mathlib.Core.Path.{◌≡◌, sym, ◌∙◌, ap}
use Prim.Native.Nat.{ℕ, ◌+◌, ◌*◌, ◌-◌, ◌≤◌, ◌<◌}
use native.Mathlib.Omega.{arith}
use borrow.Author.Tests.{le-ltb, lt-ltb, ne_eqb, eqb-true, eqb-false}
use lib.Dec.{eqb, ltb}
use lib.ListN.{length}
use Rattle.runs.specs.Refusals.{or_else}
use Rattle.runs.proofs.Laws.{split, then_later}
use Rattle.formats.specs.Formats.{settings_refusal}
use Rattle.numbers.specs.Numbers.{refusal_of, indication_refused}
use Rattle.receiver.specs.declared.Receiver.{Receiver}
use Rattle.receiver.specs.declared.Received.{Received}
use Rattle.receiver.specs.Receiver.{
  opened_of,
  state_refusal,
  used_now,
  lengths_refused,
  found_now,
  number_now,
  gap_of,
  count_after,
  receive_refusal,
  after,
  received_of,
  Receives,
}
use Rattle.receiver.proofs.Laws.{passes, answer_refusal}
use Rattle.receiver.proofs.Room.{not_so, state_to, found_to}

-- an opening has placed nothing, refused or not
pub opened_count : (octet channels order : ℕ) → (opened_of octet channels order).state.count ≡ 0
unfolding opened_of
opened_count octet channels order = split (eqb (settings_refusal octet channels order) 0) (λ e. rw e) (λ e. rw e)

-- a call that meets the contract of `receive`
module _ {st : Receiver} {cell : List ℕ} {indication : Bool} {samples ancillary marks : List ℕ} {answer : Received}
    {samples₁ ancillary₁ marks₁ : List ℕ} (call : Receives st cell indication samples ancillary marks answer samples₁ ancillary₁ marks₁)
  where
    abbrev table : ℕ
    table = receive_refusal st cell indication (length samples) (length ancillary) (length marks)

    by_table : answer.refusal ≡ table
    by_table = ap (λ (r : Received). r.refusal) call.answered ∙ answer_refusal st cell indication _ _ _

    -- "a refused call doesn't move it", nor anything else of the state
    pub refused_stays : (answer.refusal ≡ 0 → ⊥) → answer.state ≡ st
    unfolding received_of
    refused_stays some = ap (λ (r : Received). r.state) call.answered ∙ rw (ne_eqb table 0 (λ e. some (by_table ∙ e)))

    -- a call that is taken adds the cells that it tells missing and the sound one
    pub taken_counts : answer.refusal ≡ 0 → answer.state.count ≡ st.count + (answer.missing + 1)
    unfolding received_of after count_after
    taken_counts taken =
        let none : table ≡ 0 = sym by_table ∙ taken in
        let from = (passes st cell indication (length samples) (length ancillary) (length marks) none).gap_from in
        let counted : answer.state.count ≡ st.count + gap_of st cell
        = ap (λ (r : Received). r.state.count) call.answered ∙ rw none in
        let missing : answer.missing ≡ gap_of st cell - 1 = ap (λ (r : Received). r.missing) call.answered ∙ rw none in
        omega arith

    -- both in one
    pub counts : answer.state.count ≡ st.count + cond (eqb answer.refusal 0) (answer.missing + 1) 0
    counts =
        split (eqb answer.refusal 0)
        (λ e. rw e (taken_counts (eqb-true _ 0 e)))
        (λ e. rw e (ap (λ (s : Receiver). s.count) (refused_stays (eqb-false _ 0 e)) ∙ let same : st.count ≡ st.count + 0 = omega arith in same))

    -- and it is within its bound then
    pub taken_within : answer.refusal ≡ 0 → answer.state.count ≤ 4294967295
    unfolding received_of after
    taken_within taken =
        let none : table ≡ 0 = sym by_table ∙ taken in
        let counted : answer.state.count ≡ count_after st cell
        = ap (λ (r : Received). r.state.count) call.answered ∙ rw none in
        omega (arith, (passes st cell indication (length samples) (length ancillary) (length marks) none).count_to)

-- 20 is not given where the count stays within its bound
pub never_20 : (st : Receiver) (cell : List ℕ) (indication : Bool) (samples ancillary marks : ℕ) → count_after st cell ≤ 4294967295
    → receive_refusal st cell indication samples ancillary marks ≡ 20 → ⊥
unfolding receive_refusal or_else
never_20 st cell indication samples ancillary marks few =
    rw (le-ltb 4294967295 _ few)
    (not_so (eqb (state_refusal st) 0)
    (not_so (lengths_refused (length cell) samples ancillary marks) (λ e. omega arith)
    (not_so (eqb (refusal_of (found_now st cell)) 0)
    (not_so (indication_refused (number_now st cell) indication) (λ e. omega arith)
    (not_so (eqb (gap_of st cell) 0) (λ e. omega arith)
    (not_so (ltb samples (gap_of st cell * used_now st)) (λ e. omega arith) (λ e. omega arith))))
    (λ e. omega (arith, found_to (found_now st cell)))))
    (λ e. omega (arith, state_to st)))

-- and it is where the checks before it refuse nothing and the count would pass its bound, whatever the room
pub always_20 : (st : Receiver) (cell : List ℕ) (indication : Bool) (samples ancillary marks : ℕ) → state_refusal st ≡ 0
    → lengths_refused (length cell) samples ancillary marks ≡ false → refusal_of (found_now st cell) ≡ 0
    → indication_refused (number_now st cell) indication ≡ false → (gap_of st cell ≡ 0 → ⊥) → 4294967295 < count_after st cell
    → receive_refusal st cell indication samples ancillary marks ≡ 20
unfolding receive_refusal
always_20 st cell indication samples ancillary marks state lengths found rightly some many =
    then_later _ state
    ∙ rw lengths (then_later _ found ∙ rw (rightly, ne_eqb (gap_of st cell) 0 some, lt-ltb 4294967295 _ many))
