-- The sender, document 01: its refusals in the table's order, its next state, and the cell that it writes.
-- Assumes nothing.
use Rattle.std.specs.Prelude.{◌≡◌, ℕ, ◌+◌, ◌%◌, ◌^◌, Bool, true, false, cond, not, ◌&&◌, ◌||◌, List, [], ◌∷◌, length, ◌==◌, nat_lt}
use Rattle.runs.specs.Refusals.{or_else}
use Rattle.formats.specs.declared.Format.{Format}
use Rattle.formats.specs.Formats.{times_of, format_of, settings_refusal}
use Rattle.numbers.specs.Numbers.{entry_of, indication_refused}
use Rattle.cells.specs.Cells.{cell_of}
use Rattle.cells.specs.Placement.{used_of}
use Rattle.sender.specs.declared.Ready.{Ready}
use Rattle.sender.specs.declared.Sender.{Sender}
use Rattle.sender.specs.declared.Sent.{Sent}

-- the format that the state has, and T and C×T
abbrev pub format_now : Sender → Format
format_now st = format_of st.format

abbrev pub times_now : Sender → ℕ
times_now st = times_of (format_now st).slots st.channels

abbrev pub used_now : Sender → ℕ
used_now st = used_of st.format st.channels

-- 4: "a state or start number above 15; second number wanted without overhead or with S = 8, or non-zero and not wanted"
unfoldable pub numbers_refused : Sender → Bool
numbers_refused st =
    nat_lt 15 st.number
    || (nat_lt 15 st.second
    || cond st.wanted ((format_now st).overhead_bits == 0 || (format_now st).slots == 8) (not (st.second == 0)))

-- checks 1 to 4, of a state and of an opening by the state that it asks for
unfoldable pub state_refusal : Sender → ℕ
state_refusal st = or_else (settings_refusal st.format st.channels st.order) (cond (numbers_refused st) 4 0)

-- "Sender state: format, C, order, next cell's number, second number wanted or not, its last value (the given start before the
-- first cell), a cell sent or not"; "zeros from an opening" that is refused
abbrev pub zero_state : Sender
zero_state =
    record { format = 0; channels = 0; order = 0; number = 0; wanted = false; second = 0; sent = false }

abbrev pub open_state : ℕ → ℕ → ℕ → ℕ → Bool → ℕ → Sender
open_state octet channels order number wanted second =
    record {
      format = octet;
      channels = channels;
      order = order;
      number = number;
      wanted = wanted;
      second = second;
      sent = false;
    }

unfoldable pub opened_of : ℕ → ℕ → ℕ → ℕ → Bool → ℕ → Ready
opened_of octet channels order number wanted second =
    let asked = open_state octet channels order number wanted second in
    cond (state_refusal asked == 0)
    (record { refusal = 0; state = asked })
    (record { refusal = state_refusal asked; state = zero_state })

-- 5: "a cell not of 48 octets; sender runs not C×T long"
unfoldable pub lengths_refused : Sender → List ℕ → List ℕ → ℕ → Bool
lengths_refused st samples ancillary room =
    not (room == 48) || (not (length samples == used_now st) || not (length ancillary == used_now st))

-- 6: "a sample too large for its bits; ancillary above 15, or non-zero where there is none"
unfoldable pub all_below : ℕ → List ℕ → Bool
all_below bound [] = true
all_below bound (x ∷ xs) = nat_lt x bound && all_below bound xs

unfoldable pub values_refused : Sender → List ℕ → List ℕ → Bool
values_refused st samples ancillary =
    not (all_below (2 ^ (format_now st).sample_bits) samples) || not (all_below (2 ^ (format_now st).ancillary_bits) ancillary)

-- checks 1 to 4, then 5, then 6 and 7: "sending indication 1 where the number isn't a multiple of 8"
unfoldable pub send_refusal : Sender → Bool → List ℕ → List ℕ → ℕ → ℕ
send_refusal st indication samples ancillary room =
    or_else (state_refusal st)
    (cond (lengths_refused st samples ancillary room) 5
    (cond (values_refused st samples ancillary) 6
    (cond (indication_refused st.number indication) 7 0)))

-- "A sender that keeps second numbers adds 1 modulo 16 in each cell with indication 1 except its first, which carries the given start."
unfoldable pub second_now : Sender → Bool → ℕ
second_now st indication = cond (st.wanted && (indication && st.sent)) ((st.second + 1) % 16) st.second

-- "Each cell's number is one more than the last, modulo 16."
unfoldable pub after : Sender → Bool → Sender
after st indication =
    record {
      format = st.format;
      channels = st.channels;
      order = st.order;
      number = (st.number + 1) % 16;
      wanted = st.wanted;
      second = second_now st indication;
      sent = true;
    }

-- the cell that a sender in this state writes
unfoldable pub cell_now : Sender → Bool → List ℕ → List ℕ → List ℕ
cell_now st indication samples ancillary =
    cell_of (format_now st) (st.order == 1) st.channels (times_now st)
    (entry_of st.number) (second_now st indication) samples ancillary

-- the answer, and what the lent cell holds afterwards
unfoldable pub sent_of : Sender → Bool → List ℕ → List ℕ → ℕ → Sent
sent_of st indication samples ancillary room =
    cond (send_refusal st indication samples ancillary room == 0)
    (record { refusal = 0; state = after st indication })
    (record { refusal = send_refusal st indication samples ancillary room; state = st })

unfoldable pub cell_after : Sender → Bool → List ℕ → List ℕ → List ℕ → List ℕ
cell_after st indication samples ancillary cell =
    cond (send_refusal st indication samples ancillary (length cell) == 0) (cell_now st indication samples ancillary) cell

-- the whole promise of sending
pub record Sends (st : Sender) (indication : Bool) (samples ancillary cell : List ℕ) (answer : Sent) (written : List ℕ) : Type 0 where
  pub answered : answer ≡ sent_of st indication samples ancillary (length cell)
  pub cell_after_lem : written ≡ cell_after st indication samples ancillary cell
