-- Words of the code, which document 01 doesn't have: what the steps of receiving ask and leave.
-- Assumes nothing.
use Rattle.std.specs.Prelude.{Bool, true, false, cond, List, ◌++◌, ◌≡◌, ℕ, ◌+◌, ◌*◌, ◌/◌, ◌%◌, ◌^◌, ◌≤◌, ◌<◌, eqb, ltb, length, get_or, replicate}
use Rattle.std.proofs.Math.ListN as L
use Rattle.runs.specs.Refusals.{or_else}
use Rattle.runs.specs.Runs.{tab, over, written}
use Rattle.formats.specs.declared.Format.{Format}
use Rattle.formats.specs.Settled.{Settled}
use Rattle.cells.specs.Cells.{sample_in, ancillary_in, mark_in, entries_of}
use Rattle.receiver.specs.declared.Receiver.{Receiver}
use Rattle.receiver.specs.declared.Received.{Received}
use Rattle.receiver.specs.Receiver.{state_refusal, lengths_refused}

-- C×T of the settings
abbrev pub used_in : Settled → ℕ
used_in set = set.channels * set.times

-- a cell's own entries, read off each subframe
abbrev pub own_entries : (ℕ → ℕ) → Settled → List ℕ → List ℕ
own_entries read set cell = entries_of read set.format set.by_channel set.channels set.times cell

-- three runs after a cell's own entries were written from `at` on
pub record Unpacks (set : Settled) (cell : List ℕ) (at : ℕ) (samples ancillary marks samples₁ ancillary₁ marks₁ : List ℕ) : Type 0 where
  pub samples_are : samples₁ ≡ written samples at (own_entries (sample_in set.format) set cell)
  pub ancillary_is : ancillary₁ ≡ written ancillary at (own_entries (ancillary_in set.format) set cell)
  pub marks_are : marks₁ ≡ written marks at (own_entries (mark_in set.format) set cell)

-- three runs after the entries of missing cells and the cell's own were written from their start
pub record Fills (set : Settled) (cell : List ℕ) (missing : ℕ) (samples ancillary marks samples₁ ancillary₁ marks₁ : List ℕ) : Type 0 where
  pub samples_are : samples₁ ≡ over (replicate missing 0 ++ own_entries (sample_in set.format) set cell) samples
  pub ancillary_is : ancillary₁ ≡ over (replicate missing 0 ++ own_entries (ancillary_in set.format) set cell) ancillary
  pub marks_are : marks₁ ≡ over (replicate missing 2 ++ own_entries (mark_in set.format) set cell) marks

-- the three runs have room for as many entries from `at` on
pub record Room (at used : ℕ) (samples ancillary marks : List ℕ) : Type 0 where
  pub samples_room : at + used ≤ length samples
  pub ancillary_room : at + used ≤ length ancillary
  pub marks_room : at + used ≤ length marks

-- three runs after a subframe with overhead was taken apart at one place of each, by the marks of its sample bits with each five low bits
pub record Enters (subframe bits at : ℕ) (samples ancillary marks samples₁ ancillary₁ marks₁ : List ℕ) : Type 0 where
  pub samples_are : samples₁ ≡ L.set samples at (subframe / 256)
  pub ancillary_is : ancillary₁ ≡ L.set ancillary at (subframe / 16 % 16)
  pub marks_are : marks₁ ≡ L.set marks at (bits / 2 ^ (subframe % 32) % 2)

-- three runs after the entries of missing cells were written from their start; the ancillary run's zeros may go on
pub record Misses (missing blank : ℕ) (samples ancillary marks samples₁ ancillary₁ marks₁ : List ℕ) : Type 0 where
  pub samples_are : samples₁ ≡ over (replicate missing 0) samples
  pub ancillary_is : ancillary₁ ≡ written ancillary 0 (replicate blank 0)
  pub marks_are : marks₁ ≡ written marks 0 (replicate missing 2)

-- where they end: behind the cell's own entries if the format has no ancillary bits
unfoldable pub blank_end : Format → ℕ → ℕ → ℕ
blank_end f missing used = cond (eqb f.ancillary_bits 0) (missing + used) missing

-- so that the ancillary run is zero where a cell without ancillary bits has its own entries
abbrev pub Blank : Format → ℕ → ℕ → List ℕ → Type 0
Blank f at used ancillary = f.ancillary_bits ≡ 0 → (i : ℕ) → i < used → get_or ancillary (at + i) 0 ≡ 0

-- 56 hex, and all its slots in order 0 as entries of one time
abbrev pub fours : Format
fours = record { sample_bits = 24; ancillary_bits = 4; overhead_bits = 4; width = 4; slots = 12 }

abbrev pub straight : Settled
straight = record { refusal = 0; format = fours; channels = 12; times = 1; by_channel = false }

-- the number of two octets
abbrev pub two_at : List ℕ → ℕ → ℕ
two_at octets at = get_or octets at 0 * 256 + get_or octets (at + 1) 0

-- what is read off the entries that a run holds from `at` on
unfoldable pub held : (ℕ → ℕ) → List ℕ → ℕ → ℕ → List ℕ
held read run at used = tab (λ i. read (get_or run (at + i) 0)) used

-- three runs after the subframes that the first held from `at` on were taken apart
pub record Splits (f : Format) (at used : ℕ) (samples ancillary marks samples₁ ancillary₁ marks₁ : List ℕ) : Type 0 where
  pub samples_are : samples₁ ≡ written samples at (held (sample_in f) samples at used)
  pub ancillary_is : ancillary₁ ≡ written ancillary at (held (ancillary_in f) samples at used)
  pub marks_are : marks₁ ≡ written marks at (held (mark_in f) samples at used)

-- checks 1 to 5
unfoldable pub early_refusal : Receiver → ℕ → ℕ → ℕ → ℕ → ℕ
early_refusal st cell samples ancillary marks =
    or_else (state_refusal st) (cond (lengths_refused cell samples ancillary marks) 5 0)

-- checks 9, 20 and 10, by d, the count so far, how long each run is and how long it has to be
unfoldable pub late_refusal : ℕ → ℕ → ℕ → ℕ → ℕ
late_refusal gap count samples needed =
    cond (eqb gap 0) 9 (cond (ltb 4294967295 (count + gap)) 20 (cond (ltb samples needed) 10 0))

-- the answers to a call that is refused, and to one that is taken
abbrev pub refused_by : ℕ → Receiver → Received
refused_by refusal st = record { refusal = refusal; state = st; missing = 0; number = 0; second = 0; indication = false }

abbrev pub taken_as : Receiver → ℕ → ℕ → ℕ → Bool → ℕ → Received
taken_as st missing number second indication count =
    record {
      refusal = 0;
      state =
          record { format = st.format; channels = st.channels; order = st.order; started = true; last = number; count = count };
      missing = missing;
      number = number;
      second = second;
      indication = indication;
    }
