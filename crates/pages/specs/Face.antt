-- Calls of `rime_send` and `rime_receive`, with their states of octets, and what each is as a call of the box.
-- Assumes nothing.
use Rattle.std.specs.Prelude.{Bool, List, [], ◌∷◌, map, ◌≡◌, ℕ, ◌<◌, ◌≤◌, length, get_or}
use Rattle.formats.specs.Formats.{format_of}
use Rattle.receiver.specs.declared.Receiver.{Receiver}
use Rattle.reading.specs.Totals.{Each}
use Rattle.rimesatchel.specs.Boxes.{is_yes, sender_of, receiver_of, OpenedReceiver, SentOctets, ReceivedOctets}
use Rattle.line.specs.Calls.{SendCall, ReceiveCall}
use Rattle.line.specs.Line.{Row, wrote, Trip, Fair, longest, arrivals, taken, WithRoom}

-- a call of `rime_send`, what it returned and what it left
pub record SendFace : Type 0 where
  pub state : List ℕ
  pub indication : Bool
  pub samples : List ℕ
  pub ancillary : List ℕ
  pub cell : List ℕ
  pub refusal : ℕ
  pub left : List ℕ
  pub written : List ℕ

abbrev pub MeetsSendFace : SendFace → Type 0
MeetsSendFace c = SentOctets c.state c.indication c.samples c.ancillary c.cell c.refusal c.left c.written

-- a call of `rime_receive`
pub record ReceiveFace : Type 0 where
  pub state : List ℕ
  pub cell : List ℕ
  pub indication : Bool
  pub samples : List ℕ
  pub ancillary : List ℕ
  pub marks : List ℕ
  pub refusal : ℕ
  pub left : List ℕ
  pub samples_after : List ℕ
  pub ancillary_after : List ℕ
  pub marks_after : List ℕ
  pub report : List ℕ

abbrev pub MeetsReceiveFace : ReceiveFace → Type 0
MeetsReceiveFace c =
    ReceivedOctets c.state c.cell c.indication c.samples c.ancillary c.marks
    c.refusal c.left c.samples_after c.ancillary_after c.marks_after c.report

-- each as a call of the box: the states are those that the octets stand for, the report is "missing count, number, second number, indication"
abbrev pub send_of : SendFace → SendCall
send_of c =
    record {
      state = sender_of c.state;
      indication = c.indication;
      samples = c.samples;
      ancillary = c.ancillary;
      cell = c.cell;
      answer = record { refusal = c.refusal; state = sender_of c.left };
      written = c.written;
    }

abbrev pub receive_of : ReceiveFace → ReceiveCall
receive_of c =
    record {
      state = receiver_of c.state;
      cell = c.cell;
      indication = c.indication;
      samples = c.samples;
      ancillary = c.ancillary;
      marks = c.marks;
      answer =
          record {
            refusal = c.refusal;
            state = receiver_of c.left;
            missing = get_or c.report 0 0;
            number = get_or c.report 1 0;
            second = get_or c.report 2 0;
            indication = is_yes (get_or c.report 3 0);
          };
      samples_after = c.samples_after;
      ancillary_after = c.ancillary_after;
      marks_after = c.marks_after;
    }

-- calls in a row: the octets that a call left are lent to the next one
abbrev pub SendingFace : List ℕ → List SendFace → Type 0
SendingFace state calls = Row (λ c. c.state) (λ c. c.left) MeetsSendFace state calls

abbrev pub ReceivingFace : List ℕ → List ReceiveFace → Type 0
ReceivingFace state calls = Row (λ c. c.state) (λ c. c.left) MeetsReceiveFace state calls

-- the octets that calls in a row leave
unfoldable pub left_by_face : List ℕ → List ReceiveFace → List ℕ
left_by_face state [] = state
left_by_face state (c ∷ cs) = left_by_face c.left cs

-- "a receiver in the sender's settings": the first three octets of both states
abbrev pub SettingsAlike : List ℕ → List ℕ → Type 0
SettingsAlike sender receiver = (k : ℕ) → k < 3 → get_or receiver k 0 ≡ get_or sender k 0

-- what demand 3 takes for granted, of the C calls: `state` is the sender's, and a receiver that was opened in its settings has `fresh`
unfoldable pub OverTheFace : ℕ → ℕ → ℕ → (Receiver → List Trip → List ReceiveCall → Type 0) → Type 0
OverTheFace most row cells Holds =
    (state : List ℕ) (sends : List SendFace) (trips : List Trip) (fresh : List ℕ) (receives : List ReceiveFace)
    → ((format_of (get_or state 0 0)).overhead_bits ≡ 0 → ⊥)
    → SendingFace state sends
    → map (λ t. t.sent) trips ≡ wrote (map send_of sends)
    → length trips ≤ cells
    → Each (λ t. Fair most t.sent t.fate) trips
    → longest 0 trips ≤ row
    → OpenedReceiver (get_or state 0 0) (get_or state 1 0) (get_or state 2 0) 0 fresh
    → ReceivingFace fresh receives
    → map (λ c. taken (receive_of c)) receives ≡ arrivals trips
    → Each (λ c. WithRoom (receive_of c)) receives
    → Holds (receiver_of fresh) trips (map receive_of receives)
