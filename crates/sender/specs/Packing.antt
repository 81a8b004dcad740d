-- Words of the sender's code, which document 01 doesn't have: what packing a cell asks, what each part of it writes, and the
-- checks by the numbers that the code has at hand.
-- Assumes nothing.
use Rattle.std.specs.Prelude.{◌≡◌, ℕ, ◌+◌, ◌*◌, ◌/◌, ◌%◌, ◌^◌, ◌<◌, Bool, true, cond, not, ◌||◌, List, ◌++◌, length, drop, ◌==◌, nat_lt, slice_index}
use Rattle.runs.specs.Runs.{tab, joined, octets_of}
use Rattle.formats.specs.declared.Format.{Format}
use Rattle.formats.specs.Settled.{Settled}
use Rattle.formats.specs.Code.{is_usual}
use Rattle.formats.specs.Sound.{Limits}
use Rattle.cells.specs.Cells.{cell_of, subframe_of}
use Rattle.cells.specs.Placement.{carried, entry_of_slot}
use Rattle.sender.specs.declared.Sender.{Sender}
use Rattle.sender.specs.Sender.{all_below, send_refusal, cell_after}

-- runs that fill the used slots of these settings
pub record Packable (set : Settled) (samples ancillary : List ℕ) : Type 0 where
  pub limits : Limits set
  pub samples_length : length samples ≡ set.channels * set.times
  pub ancillary_length : length ancillary ≡ set.channels * set.times
  pub small : (i : ℕ) → slice_index samples i < 2 ^ set.format.sample_bits
  pub few : (i : ℕ) → slice_index ancillary i < 2 ^ set.format.ancillary_bits

-- the cell of these settings
abbrev pub packed : Settled → ℕ → ℕ → List ℕ → List ℕ → List ℕ
packed set word second samples ancillary =
    cell_of set.format set.by_channel set.channels set.times word second samples ancillary

-- a format's numbers, as a call names them
pub record Named (f : Format) (sample ancillary overhead width : ℕ) : Type 0 where
  pub sample_is : sample ≡ f.sample_bits
  pub ancillary_is : ancillary ≡ f.ancillary_bits
  pub overhead_is : overhead ≡ f.overhead_bits
  pub width_is : width ≡ f.width

-- the entry that a used slot carries
abbrev pub entry_at : Settled → ℕ → ℕ
entry_at set slot = entry_of_slot set.by_channel set.channels set.times slot

-- slot k, by sequencing bits that are one number, in which slot k's is worth 2^k
unfoldable pub slot_by : Settled → ℕ → List ℕ → List ℕ → ℕ → List ℕ
slot_by set sequence samples ancillary k =
    octets_of set.format.width
    (subframe_of set.format
    (carried set.by_channel set.channels set.times samples k)
    (carried set.by_channel set.channels set.times ancillary k)
    (sequence / 2 ^ k % 2))

-- a cell whose first k slots are filled, and a whole one
abbrev pub filled_to : Settled → ℕ → List ℕ → List ℕ → List ℕ → ℕ → List ℕ
filled_to set sequence samples ancillary cell k =
    joined (slot_by set sequence samples ancillary) k ++ drop (k * set.format.width) cell

abbrev pub filled_cell : Settled → ℕ → List ℕ → List ℕ → List ℕ
filled_cell set sequence samples ancillary = joined (slot_by set sequence samples ancillary) set.format.slots

-- an ancillary number in its place in a subframe's last octet, and what V adds to the protection bits: nothing where there is no field
unfoldable pub low_part : ℕ → ℕ → ℕ
low_part bits ancillary = cond (bits == 0) 0 (ancillary % 16 * 16 + ancillary % 16 % 2 * 3)

-- the subframe of an unused slot
unfoldable pub idle_number : ℕ → ℕ → ℕ
idle_number overhead bit = cond (overhead == 0) 0 (bit * 8 + 7)

-- a number's lowest octets, the lowest first
unfoldable pub low_octets : ℕ → ℕ → List ℕ
low_octets count number = tab (λ i. number / 2 ^ (8 * i) % 256) count

-- the checks 4, 5 and 6 by a format, or by C×T
unfoldable pub numbers_refused_by : Format → ℕ → Bool → ℕ → Bool
numbers_refused_by f number wanted second =
    nat_lt 15 number || (nat_lt 15 second || cond wanted (f.overhead_bits == 0 || f.slots == 8) (not (second == 0)))

unfoldable pub lengths_refused_by : ℕ → List ℕ → List ℕ → ℕ → Bool
lengths_refused_by used samples ancillary room =
    not (room == 48) || (not (length samples == used) || not (length ancillary == used))

unfoldable pub values_refused_by : Format → List ℕ → List ℕ → Bool
values_refused_by f samples ancillary = not (all_below (2 ^ f.sample_bits) samples) || not (all_below (2 ^ f.ancillary_bits) ancillary)

-- the bits that any number of a run has: below a power of two just where all the numbers are
pub record Unites (run : List ℕ) (all : ℕ) : Type 0 where
  pub below : (k : ℕ) → all_below (2 ^ k) run ≡ nat_lt all (2 ^ k)

-- the usual call: the usual settings, and a run that has all their entries
pub record Usual (st : Sender) (samples : ℕ) : Type 0 where
  pub settings_are : is_usual st.format st.channels st.order ≡ true
  pub samples_are : samples ≡ 12

-- what writing the cell promises: the refusal, and the cell
pub record Writes (st : Sender) (indication : Bool) (samples ancillary cell : List ℕ) (refusal : ℕ) (written : List ℕ) : Type 0 where
  pub refused : refusal ≡ send_refusal st indication samples ancillary (length cell)
  pub cell_after_lem : written ≡ cell_after st indication samples ancillary cell
