-- The receiver, document 01: its refusals in the table's order, what it writes, and what it reports.
-- Assumes nothing.
use Rattle.std.specs.Prelude.{Bool, true, false, cond, not, ◌&&◌, ◌||◌, List, [], ◌++◌, ◌≡◌, ℕ, ◌+◌, ◌*◌, ◌-◌, eqb, ltb, length, replicate, Option, Some}
use Rattle.runs.specs.Refusals.{or_else}
use Rattle.runs.specs.Runs.{over}
use Rattle.formats.specs.Formats.{times_of, format_of, settings_refusal}
use Rattle.numbers.specs.Numbers.{found_of, refusal_of, value_of, difference_of, indication_refused}
use Rattle.cells.specs.Cells.{sample_in, ancillary_in, mark_in, eight_in, second_in, entries_of}
use Rattle.cells.specs.Placement.{used_of}
use Rattle.receiver.specs.declared.Receiver.{Receiver}
use Rattle.receiver.specs.declared.Ready.{Ready}
use Rattle.receiver.specs.declared.Received.{Received}

-- "State: format, C, order, started or not, last number. Not started means last number 0."; "zeros from an opening" that is refused.
-- Request 5: "the number of cells placed since the start, sound and missing together. Keep it in the receiver's state"; "A state not
-- started must have 0"
abbrev pub zero_state : Receiver
zero_state = record { format = 0; channels = 0; order = 0; started = false; last = 0; count = 0 }

abbrev pub open_state : ℕ → ℕ → ℕ → Receiver
open_state octet channels order =
    record { format = octet; channels = channels; order = order; started = false; last = 0; count = 0 }

unfoldable pub opened_of : ℕ → ℕ → ℕ → Ready
opened_of octet channels order =
    cond (eqb (settings_refusal octet channels order) 0)
    (record { refusal = 0; state = open_state octet channels order })
    (record { refusal = settings_refusal octet channels order; state = zero_state })

-- 4: "a state .. number above 15; .. a receiver not started, or without overhead, whose last number isn't 0"
unfoldable pub last_refused : Receiver → Bool
last_refused st =
    ltb 15 st.last
    || (not (eqb st.last 0) && (not st.started || eqb (format_of st.format).overhead_bits 0))

-- "4 also for a non-zero count in a state not started"
unfoldable pub count_refused : Receiver → Bool
count_refused st = not st.started && not (eqb st.count 0)

-- checks 1 to 4 of a state
unfoldable pub state_refusal : Receiver → ℕ
state_refusal st =
    or_else (settings_refusal st.format st.channels st.order) (cond (last_refused st || count_refused st) 4 0)

-- T and C×T, as the state has them
abbrev pub times_now : Receiver → ℕ
times_now st = times_of (format_of st.format).slots st.channels

abbrev pub used_now : Receiver → ℕ
used_now st = used_of st.format st.channels

-- 5: "a cell not of 48 octets; .. receiver runs of unequal length"
unfoldable pub lengths_refused : ℕ → ℕ → ℕ → ℕ → Bool
lengths_refused cell samples ancillary marks =
    not (eqb cell 48) || (not (eqb ancillary samples) || not (eqb marks samples))

-- what the cell's eight number bits are; "Without overhead .. the reported and stored numbers stay 0"
unfoldable pub found_now : Receiver → List ℕ → Option ℕ
found_now st cell =
    cond (eqb (format_of st.format).overhead_bits 0) (Some 0) (found_of (eight_in (format_of st.format) cell))

abbrev pub number_now : Receiver → List ℕ → ℕ
number_now st cell = value_of (found_now st cell)

-- d, the gap that a cell leaves: "The first accepted cell starts it, with none missing. Afterwards d is the difference of numbers
-- modulo 16"; "Without overhead d is always 1"
unfoldable pub gap_of : Receiver → List ℕ → ℕ
gap_of st cell =
    cond (not st.started || eqb (format_of st.format).overhead_bits 0) 1 (difference_of (number_now st cell) st.last)

-- the count after a cell that is taken: itself and d - 1 missing ones are placed by it
unfoldable pub count_after : Receiver → List ℕ → ℕ
count_after st cell = st.count + gap_of st cell

-- checks 1 to 4, then 5, then 8, 15, 9, 20, 10; the runs are told by their lengths. 15 is "for indication 1 with a number not a multiple
-- of 8", and only "where the format carries overhead": without overhead the number is 0, a multiple of 8. "20 where the count would
-- pass 4,294,967,295, after 9 and before 10"
unfoldable pub receive_refusal : Receiver → List ℕ → Bool → ℕ → ℕ → ℕ → ℕ
receive_refusal st cell indication samples ancillary marks =
    or_else (state_refusal st)
    (cond (lengths_refused (length cell) samples ancillary marks) 5
    (or_else (refusal_of (found_now st cell))
    (cond (indication_refused (number_now st cell) indication) 15
    (cond (eqb (gap_of st cell) 0) 9
    (cond (ltb 4294967295 (count_after st cell)) 20
    (cond (ltb samples (gap_of st cell * used_now st)) 10 0))))))

-- "C×T entries of zero with mark 2 for each missing cell, then the cell's own entries": what one run is given
unfoldable pub entries_now : (ℕ → ℕ) → ℕ → Receiver → List ℕ → List ℕ
entries_now read missing st cell =
    replicate ((gap_of st cell - 1) * used_now st) missing
    ++ entries_of read (format_of st.format) (eqb st.order 1) st.channels (times_now st) cell

abbrev pub samples_now : Receiver → List ℕ → List ℕ
samples_now st cell = entries_now (sample_in (format_of st.format)) 0 st cell

abbrev pub ancillary_now : Receiver → List ℕ → List ℕ
ancillary_now st cell = entries_now (ancillary_in (format_of st.format)) 0 st cell

abbrev pub marks_now : Receiver → List ℕ → List ℕ
marks_now st cell = entries_now (mark_in (format_of st.format)) 2 st cell

-- "second number (0 where there is none)"
unfoldable pub second_now : Receiver → List ℕ → ℕ
second_now st cell = cond (eqb (format_of st.format).overhead_bits 0) 0 (second_in (format_of st.format) cell)

unfoldable pub after : Receiver → List ℕ → Receiver
after st cell =
    record {
      format = st.format;
      channels = st.channels;
      order = st.order;
      started = true;
      last = number_now st cell;
      count = count_after st cell;
    }

-- "Reported: missing count, number, second number .., and the indication as it came"
unfoldable pub received_of : Receiver → List ℕ → Bool → ℕ → ℕ → ℕ → Received
received_of st cell indication samples ancillary marks =
    cond (eqb (receive_refusal st cell indication samples ancillary marks) 0)
    (record {
      refusal = 0;
      state = after st cell;
      missing = gap_of st cell - 1;
      number = number_now st cell;
      second = second_now st cell;
      indication = indication;
    })
    (record {
      refusal = receive_refusal st cell indication samples ancillary marks;
      state = st;
      missing = 0;
      number = 0;
      second = 0;
      indication = false;
    })

-- the answer with room for fifteen cells of 48 entries, the most that one call writes
unfoldable pub judged_of : Receiver → List ℕ → Bool → Received
judged_of st cell indication = received_of st cell indication 720 720 720

-- what the call gives each run: nothing where it is refused
unfoldable pub entries_given : Receiver → List ℕ → Bool → ℕ → ℕ → ℕ → List ℕ → List ℕ
entries_given st cell indication samples ancillary marks entries =
    cond (eqb (receive_refusal st cell indication samples ancillary marks) 0) entries []

-- the whole promise of receiving: "Entries past these stay"
pub record Receives (st : Receiver) (cell : List ℕ) (indication : Bool) (samples ancillary marks : List ℕ)
    (answer : Received) (samples₁ ancillary₁ marks₁ : List ℕ) : Type 0 where
  pub answered : answer ≡ received_of st cell indication (length samples) (length ancillary) (length marks)
  pub samples_after : samples₁
      ≡ over (entries_given st cell indication (length samples) (length ancillary) (length marks) (samples_now st cell)) samples
  pub ancillary_after : ancillary₁
      ≡ over (entries_given st cell indication (length samples) (length ancillary) (length marks) (ancillary_now st cell)) ancillary
  pub marks_after : marks₁
      ≡ over (entries_given st cell indication (length samples) (length ancillary) (length marks) (marks_now st cell)) marks
