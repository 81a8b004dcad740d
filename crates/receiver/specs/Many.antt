-- Words of the code: the cells of records that lie one behind the other, unpacked one behind the other.
-- Assumes nothing.
use Rattle.std.specs.Prelude.{Bool, cond, ◌&&◌, List, [], ◌++◌, ◌≡◌, ℕ, ◌+◌, ◌*◌, ◌/◌, ◌-◌, eqb, leb, length, take, drop, replicate}
use Rattle.runs.specs.Runs.{joined, over}
use Rattle.formats.specs.Settled.{Settled}
use Rattle.formats.specs.Settings.{settings_of}
use Rattle.cells.specs.Cells.{sample_in, ancillary_in, mark_in}
use Rattle.receiver.specs.declared.Receiver.{Receiver}
use Rattle.receiver.specs.Unpacking.{used_in, own_entries}

-- the cell of record k from a place on: the indication's octet, and 48 octets
abbrev pub cell_from : List ℕ → ℕ → ℕ → List ℕ
cell_from octets place k = take 48 (drop (place + 49 * k + 1) octets)

-- the entries of so many cells, one behind the other
abbrev pub many_own : (ℕ → ℕ) → Settled → List ℕ → ℕ → ℕ → List ℕ
many_own read set octets place records = joined (λ k. own_entries read set (cell_from octets place k)) records

-- three runs after the entries of missing cells and the cells' own were written from their start
pub record FillsMany (set : Settled) (octets : List ℕ) (place records missing : ℕ)
    (samples ancillary marks samples₁ ancillary₁ marks₁ : List ℕ) : Type 0 where
  pub samples_are : samples₁ ≡ over (replicate missing 0 ++ many_own (sample_in set.format) set octets place records) samples
  pub ancillary_is : ancillary₁ ≡ over (replicate missing 0 ++ many_own (ancillary_in set.format) set octets place records) ancillary
  pub marks_are : marks₁ ≡ over (replicate missing 2 ++ many_own (mark_in set.format) set octets place records) marks

-- the records are there, and the runs are equally long and long enough
unfoldable pub fits_in : ℕ → ℕ → ℕ → ℕ → ℕ → ℕ → ℕ → ℕ → Bool
fits_in used octets place records missing samples ancillary marks =
    leb place octets
    && (leb records ((octets - place) / 49)
    && (eqb ancillary samples && (eqb marks samples && leb (records + missing) (samples / used))))

abbrev pub settings_now : Receiver → Settled
settings_now st = settings_of st.format st.channels st.order

-- what a run is given: nothing where they don't fit
abbrev pub many_given : Bool → ℕ → (ℕ → ℕ) → ℕ → Settled → List ℕ → ℕ → ℕ → List ℕ
many_given fits blank read missing set octets place records =
    cond fits (replicate (missing * used_in set) blank ++ many_own read set octets place records) []

pub record UnpacksMany (st : Receiver) (octets : List ℕ) (place records missing : ℕ) (samples ancillary marks : List ℕ)
    (fits : Bool) (samples₁ ancillary₁ marks₁ : List ℕ) : Type 0 where
  pub answered : fits
      ≡ eqb (settings_now st).refusal 0
      && fits_in (used_in (settings_now st)) (length octets) place records missing (length samples) (length ancillary) (length marks)
  pub samples_after : samples₁ ≡ over (many_given fits 0 (sample_in (settings_now st).format) missing (settings_now st) octets place records) samples
  pub ancillary_after : ancillary₁ ≡ over (many_given fits 0 (ancillary_in (settings_now st).format) missing (settings_now st) octets place records) ancillary
  pub marks_after : marks₁ ≡ over (many_given fits 2 (mark_in (settings_now st).format) missing (settings_now st) octets place records) marks
