-- What a call of the receiver gives each channel at each time, and what it doesn't look at.
-- Assumes nothing.
use mathlib.Core.Bool.{cond}
use mathlib.Core.List.{List, []}
use mathlib.Core.Path.{◌≡◌, sym, ◌∙◌, ap}
use Prim.Native.Nat.{ℕ, ◌+◌, ◌*◌, ◌-◌, ◌<◌}
use borrow.Author.Tests.{ne_eqb, eq-eqb}
use lib.Dec.{eqb}
use lib.ListN.{length, get_or}
use Rattle.runs.specs.Runs.{over}
use Rattle.runs.proofs.Laws.{split}
use Rattle.cells.specs.Cells.{sample_in, ancillary_in, mark_in}
use Rattle.receiver.specs.declared.Receiver.{Receiver}
use Rattle.receiver.specs.Receiver as R
use Rattle.line.specs.Calls.{ReceiveCall, MeetsReceive}
use Rattle.line.specs.Demands.{receive_table}
use Rattle.line.proofs.Cells.{received_refusal}
use Rattle.pages.specs.Boxes.{format_in, subframe_for, entry_for, Marks, ReadAlike, AnsweredAlike}
use Rattle.pages.proofs.Slots.{entry_read, entries_same, refusal_same, received_same}

module _ (r : ReceiveCall) (meets : MeetsReceive r) (got : r.answer.refusal ≡ 0) (channel time : ℕ) (c< : channel < r.state.channels)
    (t< : time < R.times_now r.state)
  where
    none : receive_table r ≡ 0
    none = sym (received_refusal r meets) ∙ got

    missing_told : r.answer.missing ≡ R.gap_of r.state r.cell - 1
    unfolding R.received_of
    missing_told = ap (λ x. x.missing) meets.answered ∙ rw none

    -- an entry of a run that was given these entries
    given : (read : ℕ → ℕ) (missing : ℕ) (run run₁ : List ℕ)
        → run₁
        ≡ over
        (R.entries_given r.state r.cell r.indication (length r.samples) (length r.ancillary) (length r.marks)
        (R.entries_now read missing r.state r.cell))
        run
        → get_or run₁ (entry_for r channel time) 0 ≡ read (subframe_for r channel time)
    unfolding R.entries_given
    given read missing run run₁ left =
        let left_is : run₁ ≡ over (R.entries_now read missing r.state r.cell) run = left ∙ rw none in
        (λ i. get_or (left_is i) (missing_told i * R.used_now r.state + (time * r.state.channels + channel)) 0)
        ∙ entry_read read missing r.state r.cell run c< t<

    marked : get_or r.marks_after (entry_for r channel time) 0 ≡ mark_in (format_in r) (subframe_for r channel time)
    marked = given (mark_in (format_in r)) 2 r.marks r.marks_after meets.marks_after

    pub marks : Marks r channel time
    unfolding mark_in
    marks =
        record {
          sample = given (sample_in (format_in r)) 0 r.samples r.samples_after meets.samples_after;
          ancillary = given (ancillary_in (format_in r)) 0 r.ancillary r.ancillary_after meets.ancillary_after;
          damaged = λ with_overhead differ. marked ∙ rw (ne_eqb _ 0 with_overhead, ne_eqb _ _ differ);
          sound =
              λ agree.
              marked
              ∙ split (eqb (format_in r).overhead_bits 0) (λ e. rw e) (λ e. rw (e, eq-eqb _ _ agree));
          unprotected = λ bare. marked ∙ rw (eq-eqb _ 0 bare);
        }

module _ (a b : ReceiveCall) (meets-a : MeetsReceive a) (meets-b : MeetsReceive b) (alike : ReadAlike a b) where
  refusals_same : R.receive_refusal a.state a.cell a.indication (length a.samples) (length a.ancillary) (length a.marks)
      ≡ R.receive_refusal a.state b.cell a.indication (length a.samples) (length a.ancillary) (length a.marks)
  refusals_same =
      refusal_same a.state a.cell b.cell alike.used_slots alike.eight_bits alike.twelve_bits a.indication _ _ _
      alike.octets

  -- what the two calls give a run: first with the other cell, then in all else
  same_run : (entries : Receiver → List ℕ → List ℕ) → entries a.state a.cell ≡ entries a.state b.cell
      → {run-a run-b left-a left-b : List ℕ} → run-a ≡ run-b
      → left-a
      ≡ over
      (R.entries_given a.state a.cell a.indication (length a.samples) (length a.ancillary) (length a.marks)
      (entries a.state a.cell))
      run-a
      → left-b
      ≡ over
      (R.entries_given b.state b.cell b.indication (length b.samples) (length b.ancillary) (length b.marks)
      (entries b.state b.cell))
      run-b
      → left-a ≡ left-b
  unfolding R.entries_given
  same_run entries same_entries {run-a} same a-left b-left =
      a-left
      ∙ (λ i. over (cond (eqb (refusals_same i) 0) (same_entries i) []) run-a)
      ∙ (λ i.
      over
      (R.entries_given (alike.state i) b.cell (alike.indication i) (length (alike.samples i)) (length (alike.ancillary i))
      (length (alike.marks i)) (entries (alike.state i) b.cell))
      (same i))
      ∙ sym b-left

  own_same : (read : ℕ → ℕ) (missing : ℕ) → R.entries_now read missing a.state a.cell ≡ R.entries_now read missing a.state b.cell
  own_same read missing =
      entries_same a.state a.cell b.cell alike.used_slots alike.eight_bits alike.twelve_bits read missing

  pub read_alike : AnsweredAlike a b
  read_alike =
      record {
        answer =
            meets-a.answered
            ∙ received_same a.state a.cell b.cell alike.used_slots alike.eight_bits alike.twelve_bits a.indication _ _ _
            alike.octets
            ∙ (λ i.
            R.received_of (alike.state i) b.cell (alike.indication i) (length (alike.samples i)) (length (alike.ancillary i))
            (length (alike.marks i)))
            ∙ sym meets-b.answered;
        samples_after = same_run R.samples_now (own_same _ 0) alike.samples meets-a.samples_after meets-b.samples_after;
        ancillary_after = same_run R.ancillary_now (own_same _ 0) alike.ancillary meets-a.ancillary_after meets-b.ancillary_after;
        marks_after = same_run R.marks_now (own_same _ 2) alike.marks meets-a.marks_after meets-b.marks_after;
      }
