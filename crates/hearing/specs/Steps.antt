-- Words of the code: a step along a log's records that are received, and what is counted by it.
-- Assumes nothing.
use Rattle.std.specs.Prelude.{cond, List, [], ◌++◌, ◌≡◌, ℕ, ◌+◌, ◌*◌, ◌-◌, ◌≤◌, eqb, length}
use Rattle.runs.specs.Runs.{written}
use Rattle.cell_log.specs.Records.{record_at, cell_at}
use Rattle.receiver.specs.declared.Receiver.{Receiver}
use Rattle.receiver.specs.declared.Received.{Received}
use Rattle.receiver.specs.Receiver.{state_refusal, used_now}
use Rattle.reading.specs.Heard.{Heard, hear, end_of, sound_in, missing_in, refused_with}
use Rattle.hearing.specs.declared.receiving.Batch.{Batch}
use Rattle.hearing.specs.Judging.{all_from}
use Rattle.hearing.specs.Receiving.{fitting, samples_of, ancillary_of, marks_of}

abbrev pub stopped_as : Batch → ℕ → Batch
stopped_as b stop =
    record {
      refusal = b.refusal;
      state = b.state;
      next = b.next;
      entries = b.entries;
      stop = stop;
      taken = b.taken;
      missing = b.missing;
      refused_8 = b.refused_8;
      refused_9 = b.refused_9;
      refused_15 = b.refused_15;
      refused_20 = b.refused_20;
    }

abbrev pub one_if : ℕ → ℕ → ℕ
one_if number wanted = cond (eqb number wanted) 1 0

-- the entries of a record that was answered so
abbrev pub needed_of : Received → ℕ → ℕ
needed_of got used = cond (eqb got.refusal 0) ((got.missing + 1) * used) 0

-- past a record that was answered so, with so many entries
abbrev pub past_one : Batch → Received → ℕ → Batch
past_one b got entries =
    record {
      refusal = b.refusal;
      state = got.state;
      next = b.next + 49;
      entries = b.entries + entries;
      stop = b.stop;
      taken = b.taken + one_if got.refusal 0;
      missing = b.missing + got.missing;
      refused_8 = b.refused_8 + one_if got.refusal 8;
      refused_9 = b.refused_9 + one_if got.refusal 9;
      refused_15 = b.refused_15 + one_if got.refusal 15;
      refused_20 = b.refused_20 + one_if got.refusal 20;
    }

-- past records
abbrev pub past_all : Batch → List Heard → Batch
past_all b heard =
    record {
      refusal = b.refusal;
      state = end_of b.state heard;
      next = b.next + 49 * length heard;
      entries = b.entries + length (samples_of heard);
      stop = b.stop;
      taken = b.taken + sound_in heard;
      missing = b.missing + missing_in heard;
      refused_8 = b.refused_8 + refused_with 8 heard;
      refused_9 = b.refused_9 + refused_with 9 heard;
      refused_15 = b.refused_15 + refused_with 15 heard;
      refused_20 = b.refused_20 + refused_with 20 heard;
    }

-- what the receiver makes of the record at a place
abbrev pub heard_at : Receiver → List ℕ → ℕ → Heard
heard_at st log place = hear st (record { indication = (record_at log place).indication; cell = cell_at log place })

-- no count passes the place
pub record Counted (b : Batch) : Type 0 where
  pub taken_to_lem : b.taken ≤ b.next
  pub missing_to : b.missing ≤ b.next
  pub eight_to : b.refused_8 ≤ b.next
  pub nine_to : b.refused_9 ≤ b.next
  pub fifteen_to : b.refused_15 ≤ b.next
  pub twenty_to : b.refused_20 ≤ b.next

-- three runs after the entries of records were written from a place on
pub record Puts (heard : List Heard) (at : ℕ) (samples ancillary marks samples₁ ancillary₁ marks₁ : List ℕ) : Type 0 where
  pub samples_are : samples₁ ≡ written samples at (samples_of heard)
  pub ancillary_is : ancillary₁ ≡ written ancillary at (ancillary_of heard)
  pub marks_are : marks₁ ≡ written marks at (marks_of heard)

-- where a step may be made: the state is sound, and nothing has stopped it yet
pub record Ready (b : Batch) (used : ℕ) (log samples ancillary marks : List ℕ) : Type 0 where
  pub sound : state_refusal b.state ≡ 0
  pub going : b.stop ≡ 0
  pub used_is : used ≡ used_now b.state
  pub counted : Counted b
  pub within : b.entries ≤ length samples
  pub ancillary_same : length ancillary ≡ length samples
  pub marks_same : length marks ≡ length samples

-- a step: past some records, or stopped before one that has no room
pub record Steps (b : Batch) (used : ℕ) (log samples ancillary marks : List ℕ) (r : Batch) (samples₁ ancillary₁ marks₁ : List ℕ) : Type 0 where
  pub new : List Heard
  pub comes : all_from b.state log b.next ≡ new ++ all_from r.state log r.next
  pub moves : r ≡ stopped_as (past_all b new) r.stop
  pub on : r.stop ≡ 0 → (1 ≤ length new) × (r.next ≤ length log)
  pub full : (r.stop ≡ 0 → ⊥) → (r.stop ≡ 10) × ((record_at log r.next).what ≡ 1) × (fitting (length samples - r.entries) (all_from r.state log r.next) ≡ [])
  pub ancillary_long : length (ancillary_of new) ≡ length (samples_of new)
  pub marks_long : length (marks_of new) ≡ length (samples_of new)
  pub puts : Puts new b.entries samples ancillary marks samples₁ ancillary₁ marks₁
  pub sound_still : state_refusal r.state ≡ 0
  pub used_still : used ≡ used_now r.state
  pub counted_still : Counted r
  pub within_still : r.entries ≤ length samples
