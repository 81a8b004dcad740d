-- Three wrong boxes: which demand each falls by, and which it meets.
-- Assumes nothing.
use mathlib.Core.Bool.{false}
use mathlib.Core.List.{List, [], ◌∷◌}
use mathlib.Core.Path.{◌≡◌, refl, ap}
use Prim.Native.Nat.{ℕ}
use native.Mathlib.Omega.{arith}
use lib.ListN.{length, get_or, replicate}
use Rattle.runs.specs.Runs.{over}
use Rattle.sender.specs.declared.Sent as SentTo
use Rattle.sender.specs.Sender as S
use Rattle.receiver.specs.Receiver as R
use Rattle.line.specs.Calls.{SendCall, MeetsSend, ReceiveCall, MeetsReceive}
use Rattle.line.specs.Demands.{Refuses, send_table, SentNothing, receive_table, ReceivedNothing}
use Rattle.line.proofs.Demands as line
use Rattle.line.proofs.Examples.{studio, fresh, sending, sent, call, answered}
use Rattle.line.proofs.Opened.{opened}
use Rattle.pages.specs.Boxes.{Demand1, Demand2, RefusesAll, GivesZeros, SendsUnwritten, ReceivesUnwritten}

-- a call of a sender of five channels whose first sample is 1, with this answer, and these octets in the cell afterwards
abbrev sends_one : SentTo.Sent → List ℕ → SendCall
sends_one answer written =
    record {
      state = studio;
      indication = false;
      samples = 1 ∷ 0 ∷ 0 ∷ 0 ∷ 0 ∷ [];
      ancillary = replicate 5 0;
      cell = replicate 48 0;
      answer = answer;
      written = written;
    }

pub refuses_all_out : Demand1 RefusesAll MeetsReceive → ⊥
unfolding opened
refuses_all_out meets =
    let refused : ◌≡◌ {A = ℕ} 1 0
    = (meets.sends (sends_one (record { refusal = 1; state = studio }) (replicate 48 0)) (record { always = refl; cell_left = refl })).by_the_table in
    omega arith

pub refuses_all_2 : Demand2 RefusesAll MeetsReceive
refuses_all_2 =
    record { cells = λ s box none. absurd (never s box none); back = λ s r box none settings arrived meets got. absurd (never s box none) }
  where
    never : (s : SendCall) → RefusesAll s → s.answer.refusal ≡ 0 → ⊥
    never s box none = let one : s.answer.refusal ≡ 1 = ap (λ x. x.refusal) box.always in omega (arith, one, none)

-- what was promised of that call
abbrev answer_right : SentTo.Sent
answer_right = S.sent_of studio false (1 ∷ 0 ∷ 0 ∷ 0 ∷ 0 ∷ []) (replicate 5 0) 48

pub zeros_out : Demand2 GivesZeros MeetsReceive → ⊥
unfolding opened
zeros_out meets =
    let first : ◌≡◌ {A = ℕ} 0 1
    = (meets.cells (sends_one answer_right (replicate 48 0))
    (record { answer_right = refl; zeros = λ none. refl; cell_left = λ some. refl }) refl).sample_at 0 0 (omega arith) (omega arith) in
    omega arith

-- the answer is right: so are the refusals
sends_right : (s : SendCall) → s.answer ≡ S.sent_of s.state s.indication s.samples s.ancillary (length s.cell)
    → ((s.answer.refusal ≡ 0 → ⊥) → s.written ≡ s.cell) → Refuses s.answer.refusal (send_table s) (SentNothing s)
sends_right s right left =
    let as-promised : SendCall =
    record {
      state = s.state;
      indication = s.indication;
      samples = s.samples;
      ancillary = s.ancillary;
      cell = s.cell;
      answer = s.answer;
      written = S.cell_after s.state s.indication s.samples s.ancillary s.cell;
    } in
    let one = line.demand_1_send as-promised (record { answered = right; cell_after_lem = refl }) in
    record {
      by_the_table = one.by_the_table;
      then_nothing = λ some. record { state_as_given = (one.then_nothing some).state_as_given; cell_as_lent = left some };
    }

pub zeros_1 : Demand1 GivesZeros MeetsReceive
zeros_1 =
    record { sends = λ s box. sends_right s box.answer_right box.cell_left; receives = line.demand_1_receive }

pub unwritten_cell_out : Demand2 SendsUnwritten MeetsReceive → ⊥
unfolding opened
unwritten_cell_out meets =
    let first : ◌≡◌ {A = ℕ} 0 1
    = (meets.cells (sends_one answer_right (replicate 48 0)) (record { answer_right = refl; cell_left = refl }) refl
    ).sample_at 0 0 (omega arith) (omega arith) in
    omega arith

pub unwritten_runs_out : Demand2 MeetsSend ReceivesUnwritten → ⊥
unfolding opened
unwritten_runs_out meets =
    let came = sent studio 1 in
    let first : ◌≡◌ {A = ℕ} 0 1
    = ap (λ (run : List ℕ). get_or run 0 0)
    (meets.back (sending studio 1) (call fresh came (answered fresh came) [] [] []) (record { answered = refl; cell_after_lem = refl }) refl
    (record { format = refl; channels = refl; order = refl }) refl
    (record { answer_right = refl; samples_left = refl; ancillary_left = refl; marks_left = refl }) refl
    ).samples_back in
    omega arith

pub unwritten_1 : Demand1 SendsUnwritten ReceivesUnwritten
unwritten_1 =
    record {
      sends = λ s box. sends_right s box.answer_right (λ some. box.cell_left);
      receives = λ r box. receives_right r box;
    }
  where
    receives_right : (r : ReceiveCall) → ReceivesUnwritten r → Refuses r.answer.refusal (receive_table r) (ReceivedNothing r)
    receives_right r box =
        let as-promised : ReceiveCall =
        record {
          state = r.state;
          cell = r.cell;
          indication = r.indication;
          samples = r.samples;
          ancillary = r.ancillary;
          marks = r.marks;
          answer = r.answer;
          samples_after =
              over
              (R.entries_given r.state r.cell r.indication (length r.samples) (length r.ancillary) (length r.marks)
              (R.samples_now r.state r.cell))
              r.samples;
          ancillary_after =
              over
              (R.entries_given r.state r.cell r.indication (length r.samples) (length r.ancillary) (length r.marks)
              (R.ancillary_now r.state r.cell))
              r.ancillary;
          marks_after =
              over
              (R.entries_given r.state r.cell r.indication (length r.samples) (length r.ancillary) (length r.marks)
              (R.marks_now r.state r.cell))
              r.marks;
        } in
        let one = line.demand_1_receive as-promised
        (record { answered = box.answer_right; samples_after = refl; ancillary_after = refl; marks_after = refl }) in
        record {
          by_the_table = one.by_the_table;
          then_nothing =
              λ some.
              record {
                nothing_answered = (one.then_nothing some).nothing_answered;
                samples_as_lent = box.samples_left;
                ancillary_as_lent = box.ancillary_left;
                marks_as_lent = box.marks_left;
              };
        }
