-- A call of the C face is a call of the box: a state that is put into octets comes back, and rows of calls are rows of the box's.
-- Assumes nothing.
use mathlib.Core.Bool.{Bool, true, false}
use mathlib.Core.List.{List, [], ◌∷◌, map}
use mathlib.Core.Path.{◌≡◌, refl, sym, ◌∙◌, ap, subst}
use Prim.Native.Nat.{ℕ, ◌+◌, ◌≤◌}
use native.Mathlib.Omega.{arith}
use borrow.Author.Tests.{eqb-true, eqb-false}
use lib.Dec.{eqb}
use lib.ListN.{length, get_or}
use Rattle.runs.proofs.Laws.{split}
use Rattle.formats.specs.Formats.{settings_refusal}
use Rattle.sender.specs.declared.Sender.{Sender}
use Rattle.sender.specs.Sender as S
use Rattle.receiver.specs.declared.Receiver.{Receiver}
use Rattle.receiver.specs.Receiver as R
use Rattle.receiver.proofs.Laws.{passes}
use Rattle.reading.specs.Totals.{total_of, Each}
use Rattle.rimesatchel.specs.Boxes.{
  is_yes,
  yes_no,
  sender_of,
  sender_octets,
  receiver_of,
  receiver_octets,
  report_octets,
  OpenedReceiver,
}
use Rattle.rimesatchel.proofs.Leaves.{count_kept}
use Rattle.line.specs.Calls.{SendCall, MeetsSend, ReceiveCall, MeetsReceive}
use Rattle.line.specs.Demands.{InSettings}
use Rattle.line.specs.Line.{Row, Sending, Receiving, Trip, taken, WithRoom, left_by, OverTheLine}
use Rattle.line.proofs.Demands as line
use Rattle.pages.specs.Face.{
  SendFace,
  MeetsSendFace,
  ReceiveFace,
  MeetsReceiveFace,
  send_of,
  receive_of,
  SendingFace,
  ReceivingFace,
  left_by_face,
  SettingsAlike,
  OverTheFace,
}

said_back : (said : Bool) → is_yes (yes_no said) ≡ said
unfolding yes_no
said_back true = refl
said_back false = refl

pub sender_back : (st : Sender) → sender_of (sender_octets st) ≡ st
unfolding sender_of sender_octets
sender_back st =
    λ i.
    record {
      format = st.format;
      channels = st.channels;
      order = st.order;
      number = st.number;
      wanted = said_back st.wanted i;
      second = st.second;
      sent = said_back st.sent i;
    }

pub receiver_back : (st : Receiver) → st.count ≤ 4294967295 → receiver_of (receiver_octets st) ≡ st
unfolding receiver_of receiver_octets
receiver_back st few =
    λ i.
    record {
      format = st.format;
      channels = st.channels;
      order = st.order;
      started = said_back st.started i;
      last = st.last;
      count = count_kept st few i;
    }

-- a call of `rime_send`
module _ (c : SendFace) (meets : MeetsSendFace c) where
  abbrev sent_call : SendCall
  sent_call =
      record {
        state = sender_of c.state;
        indication = c.indication;
        samples = c.samples;
        ancillary = c.ancillary;
        cell = c.cell;
        answer = S.sent_of (sender_of c.state) c.indication c.samples c.ancillary (length c.cell);
        written = c.written;
      }

  left_sender : sender_of c.left ≡ sent_call.answer.state
  left_sender =
      split (eqb sent_call.answer.refusal 0)
      (λ e. ap sender_of (meets.leaves ∙ rw e) ∙ sender_back sent_call.answer.state)
      (λ e.
      ap sender_of (meets.leaves ∙ rw e)
      ∙ sym
      ((line.demand_1_send sent_call (record { answered = refl; cell_after_lem = meets.writes })).then_nothing (eqb-false _ 0 e)).state_as_given)

  pub sends_as : MeetsSend (send_of c)
  sends_as =
      record { answered = λ i. record { refusal = meets.refused i; state = left_sender i }; cell_after_lem = meets.writes }

-- a call of `rime_receive`
module _ (c : ReceiveFace) (meets : MeetsReceiveFace c) where
  abbrev received_call : ReceiveCall
  received_call =
      record {
        state = receiver_of c.state;
        cell = c.cell;
        indication = c.indication;
        samples = c.samples;
        ancillary = c.ancillary;
        marks = c.marks;
        answer =
            R.received_of (receiver_of c.state) c.cell c.indication (length c.samples) (length c.ancillary) (length c.marks);
        samples_after = c.samples_after;
        ancillary_after = c.ancillary_after;
        marks_after = c.marks_after;
      }

  -- a state that a call leaves has a count below 2^32
  count_few : received_call.answer.refusal ≡ 0 → received_call.answer.state.count ≤ 4294967295
  unfolding R.received_of R.after
  count_few none =
      let table = sym (line.demand_1_receive received_call meets.receives).by_the_table ∙ none in
      rw table
      (passes (receiver_of c.state) c.cell c.indication (length c.samples) (length c.ancillary) (length c.marks) table).count_to

  left_receiver : receiver_of c.left ≡ received_call.answer.state
  left_receiver =
      split (eqb received_call.answer.refusal 0)
      (λ e.
      ap receiver_of (meets.leaves ∙ rw e)
      ∙ receiver_back received_call.answer.state (count_few (eqb-true _ 0 e)))
      (λ e.
      ap receiver_of (meets.leaves ∙ rw e)
      ∙ sym ((line.demand_1_receive received_call meets.receives).then_nothing (eqb-false _ 0 e)).nothing_answered.state_as_given)

  pub receives_as : MeetsReceive (receive_of c)
  unfolding report_octets
  receives_as =
      record {
        answered =
            λ i.
            record {
              refusal = meets.refused i;
              state = left_receiver i;
              missing = ap (λ (o : List ℕ). get_or o 0 0) meets.reports i;
              number = ap (λ (o : List ℕ). get_or o 1 0) meets.reports i;
              second = ap (λ (o : List ℕ). get_or o 2 0) meets.reports i;
              indication =
                  (ap (λ (o : List ℕ). is_yes (get_or o 3 0)) meets.reports ∙ said_back received_call.answer.indication) i;
            };
        samples_after = meets.receives.samples_after;
        ancillary_after = meets.receives.ancillary_after;
        marks_after = meets.receives.marks_after;
      }

-- rows of calls
pub sending_as : (state : List ℕ) (calls : List SendFace) → SendingFace state calls → Sending MeetsSend (sender_of state) (map send_of calls)
unfolding Row
sending_as state [] row = tt
sending_as state (c ∷ cs) row = (ap sender_of row.0, sends_as c row.1, sending_as c.left cs row.2)

pub receiving_as : (state : List ℕ) (calls : List ReceiveFace) → ReceivingFace state calls
    → Receiving MeetsReceive (receiver_of state) (map receive_of calls)
unfolding Row
receiving_as state [] row = tt
receiving_as state (c ∷ cs) row = (ap receiver_of row.0, receives_as c row.1, receiving_as c.left cs row.2)

pub left_as : (state : List ℕ) (calls : List ReceiveFace)
    → left_by (receiver_of state) (map receive_of calls) ≡ receiver_of (left_by_face state calls)
unfolding left_by left_by_face
left_as state [] = refl
left_as state (c ∷ cs) = left_as c.left cs

pub each_as : (P : ReceiveCall → Type 0) (calls : List ReceiveFace) → Each (λ c. P (receive_of c)) calls → Each P (map receive_of calls)
unfolding Each
each_as P [] all = tt
each_as P (c ∷ cs) all = (all.0, each_as P cs all.1)

map_as : {A : Type 0} (f : ReceiveCall → A) (calls : List ReceiveFace) → map f (map receive_of calls) ≡ map (λ c. f (receive_of c)) calls
map_as f [] = refl
map_as f (c ∷ cs) = ap (λ xs. f (receive_of c) ∷ xs) (map_as f cs)

pub total_as : (f : ReceiveCall → ℕ) (calls : List ReceiveFace) → total_of f (map receive_of calls) ≡ total_of (λ c. f (receive_of c)) calls
unfolding total_of
total_as f [] = refl
total_as f (c ∷ cs) = ap (λ (n : ℕ). f (receive_of c) + n) (total_as f cs)

-- "a receiver in the sender's settings"
pub settings_as : (sender receiver : List ℕ) → SettingsAlike sender receiver → InSettings (sender_of sender) (receiver_of receiver)
unfolding sender_of receiver_of
settings_as sender receiver alike =
    record { format = alike 0 (omega arith); channels = alike 1 (omega arith); order = alike 2 (omega arith) }

-- an opening that isn't refused, and one that is or not
opened_is : (format channels order : ℕ) → 0 ≡ (R.opened_of format channels order).refusal
    → (R.opened_of format channels order).state ≡ R.open_state format channels order
unfolding R.opened_of
opened_is format channels order none =
    split (eqb (settings_refusal format channels order) 0)
    (λ e. rw e)
    (λ e.
    let said : (R.opened_of format channels order).refusal ≡ settings_refusal format channels order = rw e in
    absurd (eqb-false _ 0 e (sym (none ∙ said))))

opened_count : (format channels order : ℕ) → (R.opened_of format channels order).state.count ≤ 4294967295
unfolding R.opened_of
opened_count format channels order =
    split (eqb (settings_refusal format channels order) 0) (λ e. rw e (omega arith)) (λ e. rw e (omega arith))

pub opened_back : {format channels order refusal : ℕ} {state : List ℕ} → OpenedReceiver format channels order refusal state
    → receiver_of state ≡ (R.opened_of format channels order).state
opened_back {format} {channels} {order} opening =
    ap receiver_of opening.leaves ∙ receiver_back (R.opened_of format channels order).state (opened_count format channels order)

-- what holds over the line holds over the C calls
pub over_face : (most row cells : ℕ) (Holds : Receiver → List Trip → List ReceiveCall → Type 0)
    → OverTheLine most row cells MeetsSend MeetsReceive Holds → OverTheFace most row cells Holds
unfolding OverTheFace sender_of
over_face most longest-row cells Holds holds state sends trips fresh receives with_overhead row these within fair few opening meets came room =
    let is : receiver_of fresh ≡ R.open_state (get_or state 0 0) (get_or state 1 0) (get_or state 2 0)
    = opened_back opening ∙ opened_is (get_or state 0 0) (get_or state 1 0) (get_or state 2 0) opening.refused in
    subst (λ (rc : Receiver). Holds rc trips (map receive_of receives)) (sym is)
    (holds (sender_of state) (map send_of sends) trips (map receive_of receives) with_overhead (sending_as state sends row) these within fair few
    (subst (λ (rc : Receiver). Receiving MeetsReceive rc (map receive_of receives)) is (receiving_as fresh receives meets))
    (map_as taken receives ∙ came) (each_as WithRoom receives room))
