-- Copies are sharp too: a receiver that takes a repeat doesn't meet demand 3, and a copy that comes late is outside of it.
-- Assumes nothing.
use mathlib.Core.Bool.{Bool, true, false}
use mathlib.Core.List.{List, [], ◌∷◌, ◌++◌, map}
use mathlib.Core.Path.{◌≡◌, refl, ap}
use Prim.Native.Nat.{ℕ, ◌*◌}
use native.Mathlib.Omega.{arith}
use lib.Dec.{eqb}
use lib.ListN.{length, replicate}
use Rattle.runs.specs.Runs.{over}
use Rattle.receiver.specs.declared.Receiver.{Receiver}
use Rattle.receiver.specs.declared.Received.{Received}
use Rattle.receiver.specs.Receiver as R
use Rattle.reading.specs.Records.{Whole as Arrival}
use Rattle.line.specs.Calls.{MeetsSend, ReceiveCall, MeetsReceive}
use Rattle.line.specs.Demands.{receive_table}
use Rattle.line.specs.Line.{Fate, unaltered, handed, Demand3}
use Rattle.line.proofs.Examples.{always_room, studio, studio_at, fresh, sent, trips, call, receiving, promised, receives, plays}
use Rattle.line.proofs.Opened.{opened}

-- A receiver that takes a repeat, where it should refuse it by 9, for a cell after this many missing ones. With fifteen it takes it
-- for the cell that is sixteen on; with none it writes the copy a second time.
abbrev taken_after : ℕ → Receiver → List ℕ → Bool → Received
taken_after missing st cell indication =
    record {
      refusal = 0;
      state = R.after st cell;
      missing = missing;
      number = R.number_now st cell;
      second = R.second_now st cell;
      indication = indication;
    }

abbrev entries_after : ℕ → ℕ → Receiver → List ℕ → List ℕ
entries_after missing entry st own = replicate (missing * R.used_now st) entry ++ own

pub record TakesAgain (missing : ℕ) (c : ReceiveCall) : Type 0 where
  pub answer_taken : c.answer ≡ taken_after missing c.state c.cell c.indication
  pub samples_again : c.samples_after ≡ over (entries_after missing 0 c.state (R.samples_now c.state c.cell)) c.samples
  pub ancillary_again : c.ancillary_after ≡ over (entries_after missing 0 c.state (R.ancillary_now c.state c.cell)) c.ancillary
  pub marks_again : c.marks_after ≡ over (entries_after missing 2 c.state (R.marks_now c.state c.cell)) c.marks

abbrev TakesWhen : Bool → ℕ → ReceiveCall → Type 0
TakesWhen false missing c = MeetsReceive c
TakesWhen true missing c = TakesAgain missing c

abbrev pub TakesRepeats : ℕ → ReceiveCall → Type 0
TakesRepeats missing c = TakesWhen (eqb (receive_table c) 9) missing c

-- one cell, delivered twice
came_twice : List (ℕ × Fate)
came_twice = (1, unaltered 1) ∷ []

abbrev one : Arrival
one = sent studio 1

abbrev first : ReceiveCall
first = receiving fresh one

abbrev again : ℕ → ReceiveCall
again missing =
    let st = first.answer.state in
    call st one (taken_after missing st one.cell false) (entries_after missing 0 st (R.samples_now st one.cell))
    (entries_after missing 0 st (R.ancillary_now st one.cell)) (entries_after missing 2 st (R.marks_now st one.cell))

-- it hands out the cell's five places and no more
only_five : (missing : ℕ) → Demand3 3 14 4294967295 MeetsSend (TakesRepeats missing)
    → length (handed (first ∷ again missing ∷ [])) ≡ 5
unfolding opened trips came_twice
only_five missing meets =
    ap length
    (plays 3 14 4294967295 (TakesRepeats missing) meets came_twice refl (omega arith) (tt, tt) (omega arith)
    (first ∷ again missing ∷ []) (
      refl,
      promised _ _,
      (
        refl,
        record { answer_taken = refl; samples_again = refl; ancillary_again = refl; marks_again = refl },
        tt,
      ),
    )
    refl (always_room refl refl (omega arith), (always_room refl refl (omega arith), tt))
    ).handed_out

pub not_sixteen_on : Demand3 3 14 4294967295 MeetsSend (TakesRepeats 15) → ⊥
unfolding opened
not_sixteen_on meets = let places : ◌≡◌ {A = ℕ} 85 5 = only_five 15 meets in omega arith

pub not_written_twice : Demand3 3 14 4294967295 MeetsSend (TakesRepeats 0) → ⊥
unfolding opened
not_written_twice meets = let places : ◌≡◌ {A = ℕ} 10 5 = only_five 0 meets in omega arith

-- A copy that comes after the next sent cell is no copy of demand 3. Cells 0 and 1, cell 0 again, then cell 2: the late copy's
-- number is fifteen on from cell 1's, so that it is taken and fourteen cells are told missing; cell 2's is two on from there, and
-- one cell more is told missing.
abbrev late : List ReceiveCall
late = receives fresh (one ∷ sent (studio_at 1) 2 ∷ one ∷ sent (studio_at 2) 3 ∷ [])

pub record TakenLate (calls : List ReceiveCall) : Type 0 where
  pub all_taken : map (λ c. c.answer.refusal) calls ≡ 0 ∷ 0 ∷ 0 ∷ 0 ∷ []
  pub told_missing : map (λ c. c.answer.missing) calls ≡ 0 ∷ 0 ∷ 14 ∷ 1 ∷ []
  pub marks : map (λ p. p.1.1) (handed calls)
      ≡ replicate 10 0 ++ replicate 70 2 ++ replicate 5 0 ++ replicate 5 2 ++ replicate 5 0

pub late_copy : TakenLate late
unfolding opened receives
late_copy = record { all_taken = refl; told_missing = refl; marks = refl }
