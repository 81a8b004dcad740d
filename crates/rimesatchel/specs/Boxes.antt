-- The two boxes' states as octets, and what each call of the face leaves, as include/rimesatchel.h has it.
-- Assumes nothing.
use Rattle.std.specs.Prelude.{Bool, cond, not, List, [], ◌∷◌, ◌≡◌, ℕ, ◌+◌, ◌*◌, ◌/◌, ◌%◌, eqb, length, get_or}
use Rattle.sender.specs.declared.Sender.{Sender}
use Rattle.sender.specs.declared.Sent.{Sent}
use Rattle.sender.specs.Sender as S
use Rattle.receiver.specs.declared.Receiver.{Receiver}
use Rattle.receiver.specs.declared.Received.{Received}
use Rattle.receiver.specs.Receiver as R

-- "0 is no, anything else yes"; "written as 0 or 1"
abbrev pub is_yes : ℕ → Bool
is_yes octet = not (eqb octet 0)

unfoldable pub yes_no : Bool → ℕ
yes_no said = cond said 1 0

-- "format, channels, order, next number, second wanted, second number's last value, a cell sent"
unfoldable pub sender_of : List ℕ → Sender
sender_of o =
    record {
      format = get_or o 0 0;
      channels = get_or o 1 0;
      order = get_or o 2 0;
      number = get_or o 3 0;
      wanted = is_yes (get_or o 4 0);
      second = get_or o 5 0;
      sent = is_yes (get_or o 6 0);
    }

unfoldable pub sender_octets : Sender → List ℕ
sender_octets st =
    st.format ∷ st.channels ∷ st.order ∷ st.number ∷ yes_no st.wanted ∷ st.second ∷ yes_no st.sent ∷ []

-- "then the count in four octets, least significant first"
unfoldable pub count_of : List ℕ → ℕ
count_of o = get_or o 5 0 + get_or o 6 0 * 256 + get_or o 7 0 * 65536 + get_or o 8 0 * 16777216

unfoldable pub count_octets : ℕ → List ℕ
count_octets count = count % 256 ∷ count / 256 % 256 ∷ count / 65536 % 256 ∷ count / 16777216 % 256 ∷ []

-- "format, channels, order, started, last number"
unfoldable pub receiver_of : List ℕ → Receiver
receiver_of o =
    record {
      format = get_or o 0 0;
      channels = get_or o 1 0;
      order = get_or o 2 0;
      started = is_yes (get_or o 3 0);
      last = get_or o 4 0;
      count = count_of o;
    }

unfoldable pub receiver_octets : Receiver → List ℕ
receiver_octets st = st.format ∷ st.channels ∷ st.order ∷ yes_no st.started ∷ st.last ∷ count_octets st.count

-- "missing count, number, second number, indication"
unfoldable pub report_octets : Received → List ℕ
report_octets r = r.missing ∷ r.number ∷ r.second ∷ yes_no r.indication ∷ []

pub record OpenedSender (format channels order number : ℕ) (wanted : Bool) (second refusal : ℕ) (state : List ℕ) : Type 0 where
  pub refused : refusal ≡ (S.opened_of format channels order number wanted second).refusal
  pub leaves : state ≡ sender_octets (S.opened_of format channels order number wanted second).state

pub record OpenedReceiver (format channels order refusal : ℕ) (state : List ℕ) : Type 0 where
  pub refused : refusal ≡ (R.opened_of format channels order).refusal
  pub leaves : state ≡ receiver_octets (R.opened_of format channels order).state

-- the state is written where nothing is refused, and else "stays as it was"
abbrev pub state_after : ℕ → List ℕ → List ℕ → List ℕ
state_after refusal new old = cond (eqb refusal 0) new old

abbrev pub sent_here : List ℕ → Bool → List ℕ → List ℕ → List ℕ → Sent
sent_here state indication samples ancillary cell = S.sent_of (sender_of state) indication samples ancillary (length cell)

pub record SentOctets (state : List ℕ) (indication : Bool) (samples ancillary cell : List ℕ) (refusal : ℕ) (left written : List ℕ) : Type 0 where
  pub refused : refusal ≡ (sent_here state indication samples ancillary cell).refusal
  pub leaves : left
      ≡ state_after (sent_here state indication samples ancillary cell).refusal (sender_octets (sent_here state indication samples ancillary cell).state) state
  pub writes : written ≡ S.cell_after (sender_of state) indication samples ancillary cell

abbrev pub received_here : List ℕ → List ℕ → Bool → List ℕ → List ℕ → List ℕ → Received
received_here state cell indication samples ancillary marks =
    R.received_of (receiver_of state) cell indication (length samples) (length ancillary) (length marks)

pub record ReceivedOctets (state cell : List ℕ) (indication : Bool) (samples ancillary marks : List ℕ)
    (refusal : ℕ) (left samples₁ ancillary₁ marks₁ report : List ℕ) : Type 0 where
  pub refused : refusal ≡ (received_here state cell indication samples ancillary marks).refusal
  pub leaves : left
      ≡ state_after (received_here state cell indication samples ancillary marks).refusal
      (receiver_octets (received_here state cell indication samples ancillary marks).state) state
  pub reports : report ≡ report_octets (received_here state cell indication samples ancillary marks)
  pub receives : R.Receives (receiver_of state) cell indication samples ancillary marks
      (received_here state cell indication samples ancillary marks) samples₁ ancillary₁ marks₁
