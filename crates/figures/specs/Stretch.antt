-- Words that only the code needs which counts records in one go: a cell that comes next in turn, marks slot by slot, and records
-- one behind the other.
-- Assumes nothing.
use Rattle.std.specs.Prelude.{true, cond, List, ◌≡◌, ℕ, zero, suc, ◌+◌, ◌*◌, ◌/◌, ◌-◌, ◌%◌, ◌≤◌, ◌<◌, eqb, drop}
use Rattle.formats.specs.declared.Format.{Format}
use Rattle.formats.specs.Settled.{Settled}
use Rattle.cells.specs.Cells.{subframe_at, mark_in}
use Rattle.receiver.specs.declared.Receiver.{Receiver}
use Rattle.receiver.specs.declared.Received.{Received}
use Rattle.reading.specs.Heard.{hear, onward, heard_from, end_of}
use Rattle.reading.specs.Records.{Whole, walk_within}
use Rattle.figures.specs.declared.Counts.{Counts}
use Rattle.figures.specs.declared.Noted.{Noted}
use Rattle.figures.specs.declared.told.Told.{Told}
use Rattle.figures.specs.Code.{one_of}
use Rattle.figures.specs.Figures.{counts_of, plus_of}

-- what is looked at of an answer
abbrev pub told_of : Received → Told
told_of got = record { refusal = got.refusal; missing = got.missing; state = got.state }

-- the answer to a cell that comes next, where the format has overhead
abbrev pub next_told : Receiver → Told
next_told st =
    record {
      refusal = 0;
      missing = 0;
      state = record {
        format = st.format;
        channels = st.channels;
        order = st.order;
        started = true;
        last = (st.last + 1) % 16;
        count = st.count + 1;
      };
    }

-- a state that waits for the next cell in turn: it is started, and none of its checks refuses
pub record Waits (set : Settled) (st : Receiver) : Type 0 where
  pub taken : set.refusal ≡ 0
  pub started : st.started ≡ true
  pub last_to : st.last ≤ 15
  pub goes_on : st.count < 4294967295

-- the nine top sample bits of a subframe by its first two octets: "an 8-bit sample has a ninth bit of 0"
unfoldable pub top_nine : ℕ → ℕ → ℕ → ℕ
top_nine bits first second = cond (eqb bits 8) (first * 2) (first * 2 + second / 128)

-- a subframe's key in the table of marks, by its first two octets, and its five low bits, by its second octet and its last: where
-- there is no V, the key is the eight top bits, and the ninth stands in V's place
unfoldable pub key_of : Format → ℕ → ℕ → ℕ
key_of f first second = cond (eqb f.ancillary_bits 0) first (top_nine f.sample_bits first second)

unfoldable pub low_of : Format → ℕ → ℕ → ℕ
low_of f second last = cond (eqb f.ancillary_bits 0) (last % 16 + second / 128 * 16) (last % 32)

-- numbers added up
unfoldable pub sum_to : (ℕ → ℕ) → ℕ → ℕ
sum_to g zero = 0
sum_to g (suc n) = sum_to g n + g n

-- the marks of the first slots added up: how many are marked 1
abbrev pub marks_in : Format → List ℕ → ℕ → ℕ
marks_in f cell n = sum_to (λ k. mark_in f (subframe_at f cell k)) n

-- what a cell counts that is taken, and one that is refused
abbrev pub taken_one : ℕ → ℕ → ℕ → Counts
taken_one used missing ones =
    record {
      sound = 1;
      missing = missing;
      refused_8 = 0;
      refused_9 = 0;
      refused_15 = 0;
      refused_20 = 0;
      marked_0 = used - ones;
      marked_1 = ones;
      marked_2 = missing * used;
    }

abbrev pub refused_one : ℕ → Counts
refused_one refusal =
    record {
      sound = 0;
      missing = 0;
      refused_8 = cond (eqb refusal 8) 1 0;
      refused_9 = cond (eqb refusal 9) 1 0;
      refused_15 = cond (eqb refusal 15) 1 0;
      refused_20 = cond (eqb refusal 20) 1 0;
      marked_0 = 0;
      marked_1 = 0;
      marked_2 = 0;
    }

-- past one record more
abbrev pub noted_past : Noted → Whole → Noted
noted_past n w = record { state = onward (hear n.state w); counts = plus_of n.counts (one_of (hear n.state w)) }

-- so many records from a place on, and what they count
abbrev pub records_at : List ℕ → ℕ → ℕ → List Whole
records_at octets place n = (walk_within n (drop place octets)).records

abbrev pub noted_over : Receiver → List Whole → Noted
noted_over st records = record { state = end_of st (heard_from st records); counts = counts_of (heard_from st records) }

-- so many cells that are all taken with no gap before them, whatever they hold: the format has no overhead, the state waits for the
-- next cell, and the count goes so far
pub record Bare (set : Settled) (st : Receiver) (n : ℕ) : Type 0 where
  pub taken : set.refusal ≡ 0
  pub no_overhead : set.format.overhead_bits ≡ 0
  pub started : st.started ≡ true
  pub last_none : st.last ≡ 0
  pub goes_on : st.count + n ≤ 4294967295

-- and what they count: C×T samples marked 0 each
abbrev pub bare_noted : Receiver → ℕ → ℕ → Noted
bare_noted st used n =
    record {
      state = record {
        format = st.format;
        channels = st.channels;
        order = st.order;
        started = true;
        last = 0;
        count = st.count + n;
      };
      counts = record {
        sound = n;
        missing = 0;
        refused_8 = 0;
        refused_9 = 0;
        refused_15 = 0;
        refused_20 = 0;
        marked_0 = n * used;
        marked_1 = 0;
        marked_2 = 0;
      };
    }
