-- A log's records received in a row: what `heard_from` hands out, of the longest prefix of the records that has room.
-- Assumes nothing.
use Rattle.std.specs.Prelude.{cond, not, ◌||◌, ◌≡◌, ℕ, ◌+◌, ◌*◌, ◌-◌, eqb, leb, length}
use mathlib.Core.List.{List, [], ◌∷◌, flat_map}
use Rattle.runs.specs.Refusals.{or_else}
use Rattle.runs.specs.Runs.{over}
use Rattle.cell_log.specs.Records.{record_at}
use Rattle.receiver.specs.declared.Receiver.{Receiver}
use Rattle.receiver.specs.Receiver.{state_refusal}
use Rattle.reading.specs.Heard.{Heard, end_of, sound_in, missing_in, refused_with}
use Rattle.hearing.specs.declared.receiving.Batch.{Batch}
use Rattle.hearing.specs.Judging.{all_from, stop_of}

-- "It stops at the first record whose entries, with those of the missing cells before it, don't fit into what is left of the runs"; "a
-- refused record needs no room"
unfoldable pub fitting : ℕ → List Heard → List Heard
fitting room [] = []
fitting room (h ∷ hs) = cond (leb (length h.samples) room) (h ∷ fitting (room - length h.samples) hs) []

abbrev pub received_in : Receiver → List ℕ → ℕ → ℕ → List Heard
received_in st log place room = fitting room (all_from st log place)

-- "each cell's entries behind the last one's"
abbrev pub samples_of : List Heard → List ℕ
samples_of heard = flat_map (λ h. h.samples) heard

abbrev pub ancillary_of : List Heard → List ℕ
ancillary_of heard = flat_map (λ h. h.ancillary) heard

abbrev pub marks_of : List Heard → List ℕ
marks_of heard = flat_map (λ h. h.marks) heard

-- `counts`: "the next place; entries written; why it stopped; cells taken; cells missing before them; refused by 8, by 9, by 15, by 20,
-- of this call"
abbrev pub received_to : Receiver → List ℕ → ℕ → List Heard → Batch
received_to st log place heard =
    record {
      refusal = 0;
      state = end_of st heard;
      next = place + 49 * length heard;
      entries = length (samples_of heard);
      stop = stop_of (record_at log (place + 49 * length heard));
      taken = sound_in heard;
      missing = missing_in heard;
      refused_8 = refused_with 8 heard;
      refused_9 = refused_with 9 heard;
      refused_15 = refused_with 15 heard;
      refused_20 = refused_with 20 heard;
    }

-- before the first record; of a call that is refused, all there is
abbrev pub begun_as : ℕ → Receiver → ℕ → Batch
begun_as refusal st place =
    record {
      refusal = refusal;
      state = st;
      next = place;
      entries = 0;
      stop = 0;
      taken = 0;
      missing = 0;
      refused_8 = 0;
      refused_9 = 0;
      refused_15 = 0;
      refused_20 = 0;
    }

-- "in `rime_receive`'s order: 1 to 4 for the state, 5 where the three runs aren't equally long"; the runs are told by their lengths
unfoldable pub call_refusal : Receiver → ℕ → ℕ → ℕ → ℕ
call_refusal st samples ancillary marks =
    or_else (state_refusal st) (cond (not (eqb ancillary samples) || not (eqb marks samples)) 5 0)

-- "Then state and runs are as they were and `counts` is zeros"
abbrev pub received_over : Receiver → List ℕ → ℕ → ℕ → ℕ → ℕ → Batch
received_over st log place samples ancillary marks =
    cond (eqb (call_refusal st samples ancillary marks) 0)
    (received_to st log place (received_in st log place samples))
    (begun_as (call_refusal st samples ancillary marks) st 0)

-- what a run is given
abbrev pub column_given : (List Heard → List ℕ) → Receiver → List ℕ → ℕ → ℕ → ℕ → ℕ → List ℕ
column_given column st log place samples ancillary marks =
    cond (eqb (call_refusal st samples ancillary marks) 0) (column (received_in st log place samples)) []

-- the walk, of a call that nothing is wrong with
pub record ReceivesOn (st : Receiver) (log : List ℕ) (place : ℕ) (samples ancillary marks : List ℕ) (answer : Batch)
    (samples₁ ancillary₁ marks₁ : List ℕ) : Type 0 where
  pub answered : answer ≡ received_to st log place (received_in st log place (length samples))
  pub samples_after : samples₁ ≡ over (samples_of (received_in st log place (length samples))) samples
  pub ancillary_after : ancillary₁ ≡ over (ancillary_of (received_in st log place (length samples))) ancillary
  pub marks_after : marks₁ ≡ over (marks_of (received_in st log place (length samples))) marks

-- the whole promise: "What stands in the runs past the entries stays"
pub record ReceivesLog (st : Receiver) (log : List ℕ) (place : ℕ) (samples ancillary marks : List ℕ) (answer : Batch)
    (samples₁ ancillary₁ marks₁ : List ℕ) : Type 0 where
  pub answered : answer ≡ received_over st log place (length samples) (length ancillary) (length marks)
  pub samples_after : samples₁ ≡ over (column_given samples_of st log place (length samples) (length ancillary) (length marks)) samples
  pub ancillary_after : ancillary₁ ≡ over (column_given ancillary_of st log place (length samples) (length ancillary) (length marks)) ancillary
  pub marks_after : marks₁ ≡ over (column_given marks_of st log place (length samples) (length ancillary) (length marks)) marks
