-- The count is sharp: receivers that count otherwise meet neither demand 3 nor the theorem over rows of calls.
-- Assumes nothing.
use mathlib.Core.Bool.{cond}
use mathlib.Core.List.{List, [], ◌∷◌}
use mathlib.Core.Path.{◌≡◌, refl}
use Prim.Native.Nat.{ℕ, ◌+◌}
use native.Mathlib.Omega.{arith}
use lib.Dec.{eqb}
use lib.ListN.{length}
use Rattle.runs.specs.Runs.{over}
use Rattle.receiver.specs.declared.Receiver.{Receiver}
use Rattle.receiver.specs.declared.Received.{Received}
use Rattle.receiver.specs.Receiver as R
use Rattle.reading.specs.Records.{Whole as Arrival}
use Rattle.line.specs.Calls.{MeetsSend, ReceiveCall}
use Rattle.line.specs.Line.{Fate, dropped, unaltered, Receiving, Demand3, CountsCells}
use Rattle.line.proofs.Examples.{always_room, studio, studio_at, fresh, sent, trips, call, answered, plays}
use Rattle.line.proofs.Opened.{opened}

-- An answer with another count in its state, and a receiver that is right in all but what it adds to the count.
abbrev recounted : ℕ → Received → Received
recounted count r =
    record {
      refusal = r.refusal;
      state =
          record {
            format = r.state.format;
            channels = r.state.channels;
            order = r.state.order;
            started = r.state.started;
            last = r.state.last;
            count = count;
          };
      missing = r.missing;
      number = r.number;
      second = r.second;
      indication = r.indication;
    }

abbrev rightly : ReceiveCall → Received
rightly c =
    R.received_of c.state c.cell c.indication (length c.samples) (length c.ancillary) (length c.marks)

abbrev given : ReceiveCall → List ℕ → List ℕ
given c entries =
    R.entries_given c.state c.cell c.indication (length c.samples) (length c.ancillary) (length c.marks) entries

pub record Counts (adds : Received → ℕ) (c : ReceiveCall) : Type 0 where
  pub answer_but_count : c.answer ≡ recounted (c.state.count + adds (rightly c)) (rightly c)
  pub samples_right : c.samples_after ≡ over (given c (R.samples_now c.state c.cell)) c.samples
  pub ancillary_right : c.ancillary_after ≡ over (given c (R.ancillary_now c.state c.cell)) c.ancillary
  pub marks_right : c.marks_after ≡ over (given c (R.marks_now c.state c.cell)) c.marks

-- sound cells only; a refused call too
abbrev pub sound_only : Received → ℕ
sound_only r = cond (eqb r.refusal 0) 1 0

abbrev pub refused_too : Received → ℕ
refused_too r = cond (eqb r.refusal 0) (r.missing + 1) 1

-- such a call, on runs of eighty entries
abbrev counting : (Received → ℕ) → Receiver → Arrival → ReceiveCall
counting adds rc a =
    call rc a (recounted (rc.count + adds (answered rc a)) (answered rc a))
    (R.entries_given rc a.cell a.indication 80 80 80 (R.samples_now rc a.cell))
    (R.entries_given rc a.cell a.indication 80 80 80 (R.ancillary_now rc a.cell))
    (R.entries_given rc a.cell a.indication 80 80 80 (R.marks_now rc a.cell))

counted_so : (adds : Received → ℕ) (rc : Receiver) (a : Arrival) → Counts adds (counting adds rc a)
counted_so adds rc a = record { answer_but_count = refl; samples_right = refl; ancillary_right = refl; marks_right = refl }

-- two calls in a row
abbrev two : (Received → ℕ) → Arrival → Arrival → List ReceiveCall
two adds a b = counting adds fresh a ∷ counting adds (counting adds fresh a).answer.state b ∷ []

two_in_a_row : (adds : Received → ℕ) (a b : Arrival) → Receiving (Counts adds) fresh (two adds a b)
unfolding opened
two_in_a_row adds a b = (refl, counted_so adds _ _, (refl, counted_so adds _ _, tt))

abbrev one : Arrival
one = sent studio 1

abbrev third : Arrival
third = sent (studio_at 2) 3

-- a cell dropped between two: two sound cells, and three placed
one_dropped : List (ℕ × Fate)
one_dropped = (1, unaltered 0) ∷ (2, dropped) ∷ (3, unaltered 0) ∷ []

pub not_sound_only : Demand3 3 14 4294967295 MeetsSend (Counts sound_only) → ⊥
unfolding opened trips one_dropped
not_sound_only meets =
    let kept = plays 3 14 4294967295 (Counts sound_only) meets one_dropped refl (omega arith) (tt, (tt, (tt, tt))) (omega arith)
    (two sound_only one third) (two_in_a_row sound_only one third) refl
    (always_room refl refl (omega arith), (always_room refl refl (omega arith), tt)) in
    let counts : ◌≡◌ {A = ℕ} 2 3 = kept.counted in
    omega arith

pub not_sound_only_in_rows : CountsCells (Counts sound_only) → ⊥
unfolding opened
not_sound_only_in_rows meets =
    let counts : ◌≡◌ {A = ℕ} 2 3
    = meets 0x5A 5 0 (R.opened_of 0x5A 5 0) (two sound_only one third) refl (two_in_a_row sound_only one third) in
    omega arith

-- a copy, which is refused
came_twice : List (ℕ × Fate)
came_twice = (1, unaltered 1) ∷ []

pub not_refused_too : Demand3 3 14 4294967295 MeetsSend (Counts refused_too) → ⊥
unfolding opened trips came_twice
not_refused_too meets =
    let kept = plays 3 14 4294967295 (Counts refused_too) meets came_twice refl (omega arith) (tt, tt) (omega arith)
    (two refused_too one one) (two_in_a_row refused_too one one) refl
    (always_room refl refl (omega arith), (always_room refl refl (omega arith), tt)) in
    let counts : ◌≡◌ {A = ℕ} 2 1 = kept.counted in
    omega arith

pub not_refused_too_in_rows : CountsCells (Counts refused_too) → ⊥
unfolding opened
not_refused_too_in_rows meets =
    let counts : ◌≡◌ {A = ℕ} 2 1
    = meets 0x5A 5 0 (R.opened_of 0x5A 5 0) (two refused_too one one) refl (two_in_a_row refused_too one one) in
    omega arith
