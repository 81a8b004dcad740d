-- Single calls of the two boxes: what is refused leaves everything, and what was sent comes back.
-- Assumes nothing.
use mathlib.Core.List.{List}
use mathlib.Core.Path.{◌≡◌, sym, ◌∙◌, ap}
use Prim.Native.Nat.{ℕ, ◌-◌}
use borrow.Author.Tests.{ne_eqb}
use lib.ListN.{length}
use Rattle.runs.specs.Runs.{over}
use Rattle.numbers.specs.Numbers.{value_of}
use Rattle.sender.specs.Sender as S
use Rattle.receiver.specs.Receiver as R
use Rattle.line.specs.Calls.{SendCall, MeetsSend, ReceiveCall, MeetsReceive}
use Rattle.line.specs.Demands.{send_table, receive_table, Refuses, SentNothing, ReceivedNothing, InSettings, GivesBack, Tells}
use Rattle.line.proofs.Cells.{
  sent_refusal,
  received_refusal,
  samples_there,
  ancillary_there,
  marks_there,
  found_there,
  second_there,
  no_second_there,
}

pub sends_or_nothing : (s : SendCall) → MeetsSend s → Refuses s.answer.refusal (send_table s) (SentNothing s)
unfolding S.sent_of S.cell_after
sends_or_nothing s meets =
    record {
      by_the_table = sent_refusal s meets;
      then_nothing =
          λ some.
          let refused = ne_eqb _ 0 (λ e. some (sent_refusal s meets ∙ e)) in
          record { state_as_given = ap (λ x. x.state) meets.answered ∙ rw refused; cell_as_lent = meets.cell_after_lem ∙ rw refused };
    }

pub receives_or_nothing : (r : ReceiveCall) → MeetsReceive r → Refuses r.answer.refusal (receive_table r) (ReceivedNothing r)
unfolding R.received_of R.entries_given over
receives_or_nothing r meets =
    record {
      by_the_table = received_refusal r meets;
      then_nothing =
          λ some.
          let refused = ne_eqb _ 0 (λ e. some (received_refusal r meets ∙ e)) in
          record {
            nothing_answered =
                record {
                  state_as_given = ap (λ x. x.state) meets.answered ∙ rw refused;
                  none_missing = ap (λ x. x.missing) meets.answered ∙ rw refused;
                  no_number = ap (λ x. x.number) meets.answered ∙ rw refused;
                  no_second = ap (λ x. x.second) meets.answered ∙ rw refused;
                  no_indication = ap (λ x. x.indication) meets.answered ∙ rw refused;
                };
            samples_as_lent = meets.samples_after ∙ rw refused;
            ancillary_as_lent = meets.ancillary_after ∙ rw refused;
            marks_as_lent = meets.marks_after ∙ rw refused;
          };
    }

-- what a call that is taken gives a run
given_there : (r : ReceiveCall) (run : List ℕ) {entries there after : List ℕ} → receive_table r ≡ 0
    → after ≡ over (R.entries_given r.state r.cell r.indication (length r.samples) (length r.ancillary) (length r.marks) entries) run
    → entries ≡ there → after ≡ over there run
unfolding R.entries_given
given_there r run taken left e = left ∙ rw taken (ap (λ new. over new run) e)

-- a cell that was sent, unaltered at a receiver that takes it
module _ (s : SendCall) (r : ReceiveCall) (sends : MeetsSend s) (sent : s.answer.refusal ≡ 0) (same : InSettings s.state r.state)
    (arrived : r.cell ≡ s.written) (receives : MeetsReceive r) (received : r.answer.refusal ≡ 0)
  where
    taken : receive_table r ≡ 0
    taken = sym (received_refusal r receives) ∙ received

    missing_told : r.answer.missing ≡ R.gap_of r.state r.cell - 1
    unfolding R.received_of
    missing_told = ap (λ x. x.missing) receives.answered ∙ rw taken

    pub gives_back : GivesBack s r
    gives_back =
        record {
          samples_back =
              rw missing_told
              (given_there r r.samples taken receives.samples_after (samples_there s sends sent r same arrived));
          ancillary_back =
              rw missing_told
              (given_there r r.ancillary taken receives.ancillary_after (ancillary_there s sends sent r same arrived));
          marked_sound =
              rw missing_told
              (given_there r r.marks taken receives.marks_after (marks_there s sends sent r same arrived));
        }

    second_told_lem : r.answer.second ≡ R.second_now r.state r.cell
    unfolding R.received_of
    second_told_lem = ap (λ x. x.second) receives.answered ∙ rw taken

    pub tells : ((S.format_now s.state).overhead_bits ≡ 0 → ⊥) → Tells s r
    unfolding R.received_of value_of
    tells with_overhead =
        record {
          number_told =
              ap (λ x. x.number) receives.answered
              ∙ (rw taken)
              ∙ ap value_of (found_there s sends sent with_overhead r same arrived);
          second_told_lem = λ enough. second_told_lem ∙ second_there s sends sent with_overhead r same arrived enough;
          no_second_told = λ less. second_told_lem ∙ no_second_there s sends sent with_overhead r same arrived less;
        }
