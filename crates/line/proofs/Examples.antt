-- Calls of both boxes to try demand 3 on: a sender of five channels in 5A hex, and a receiver with three runs of eighty entries.
-- Assumes nothing.
use mathlib.Core.Bool.{true, false}
use mathlib.Core.List.{List, [], ◌∷◌, map}
use mathlib.Core.Path.{◌≡◌, refl, ap}
use Prim.Native.Nat.{ℕ, ◌*◌, ◌≤◌}
use native.Mathlib.Nat.{suc-ne-zero}
use native.Mathlib.Omega.{arith}
use lib.Dec.{eqb}
use lib.ListN.{length, replicate}
use Rattle.runs.specs.Runs.{over}
use Rattle.runs.proofs.Laws.{split}
use Rattle.sender.specs.declared.Sender.{Sender}
use Rattle.sender.specs.Sender as S
use Rattle.receiver.specs.declared.Receiver.{Receiver}
use Rattle.receiver.specs.declared.Received.{Received}
use Rattle.receiver.specs.Receiver as R
use Rattle.receiver.proofs.Room as Room
use Rattle.reading.specs.Records.{Whole as Arrival}
use Rattle.reading.specs.Totals.{Each}
use Rattle.line.specs.Calls.{SendCall, MeetsSend, ReceiveCall, MeetsReceive}
use Rattle.line.specs.Line.{
  Row,
  Sending,
  Receiving,
  wrote,
  Fate,
  Trip,
  Fair,
  longest,
  arrivals,
  taken,
  WithRoom,
  ComesOut,
  Demand3,
}
use Rattle.line.proofs.Opened.{opened}

-- Three equal runs of fifteen times C×T always have room.
pub always_room : {c : ReceiveCall} → length c.ancillary ≡ length c.samples → length c.marks ≡ length c.samples
    → 15 * R.used_now c.state ≤ length c.samples → WithRoom c
always_room {c} ancillary marks enough =
    record { ancillary_equal = ancillary; marks_equal = marks; long_enough = Room.always_room c.state c.cell c.indication _ _ _ enough }

-- a sender of five channels in 5A hex, one sample of each in a cell, its first cell to have number 0
abbrev pub studio : Sender
studio = S.open_state 0x5A 5 0 0 false 0

abbrev pub fresh : Receiver
fresh = R.open_state 0x5A 5 0

-- a call of `send` as it promises, the first sample being n; and calls in a row, each with its cell's fate
abbrev pub sending : Sender → ℕ → SendCall
sending st n =
    record {
      state = st;
      indication = false;
      samples = n ∷ 0 ∷ 0 ∷ 0 ∷ 0 ∷ [];
      ancillary = replicate 5 0;
      cell = replicate 48 0;
      answer = S.sent_of st false (n ∷ 0 ∷ 0 ∷ 0 ∷ 0 ∷ []) (replicate 5 0) 48;
      written = S.cell_after st false (n ∷ 0 ∷ 0 ∷ 0 ∷ 0 ∷ []) (replicate 5 0) (replicate 48 0);
    }

unfoldable pub trips : Sender → List (ℕ × Fate) → List Trip
trips st [] = []
trips st (x ∷ xs) = record { sent = sending st x.0; fate = x.1 } ∷ trips (sending st x.0).answer.state xs

abbrev pub sends : Sender → List (ℕ × Fate) → List SendCall
sends st xs = map (λ t. t.sent) (trips st xs)

pub sends_in_a_row : (st : Sender) (xs : List (ℕ × Fate)) → Sending MeetsSend st (sends st xs)
unfolding Row trips
sends_in_a_row st [] = tt
sends_in_a_row st (x ∷ xs) = (refl, record { answered = refl; cell_after_lem = refl }, sends_in_a_row (sending st x.0).answer.state xs)

-- a call of `receive` on three runs of eighty zeros, with this answer and these entries written from their start
abbrev pub call : Receiver → Arrival → Received → List ℕ → List ℕ → List ℕ → ReceiveCall
call rc a answer samples ancillary marks =
    record {
      state = rc;
      cell = a.cell;
      indication = a.indication;
      samples = replicate 80 0;
      ancillary = replicate 80 0;
      marks = replicate 80 0;
      answer = answer;
      samples_after = over samples (replicate 80 0);
      ancillary_after = over ancillary (replicate 80 0);
      marks_after = over marks (replicate 80 0);
    }

abbrev pub answered : Receiver → Arrival → Received
answered rc a = R.received_of rc a.cell a.indication 80 80 80

-- as it promises; and such calls in a row
abbrev pub receiving : Receiver → Arrival → ReceiveCall
receiving rc a =
    call rc a (answered rc a)
    (R.entries_given rc a.cell a.indication 80 80 80 (R.samples_now rc a.cell))
    (R.entries_given rc a.cell a.indication 80 80 80 (R.ancillary_now rc a.cell))
    (R.entries_given rc a.cell a.indication 80 80 80 (R.marks_now rc a.cell))

pub promised : (rc : Receiver) (a : Arrival) → MeetsReceive (receiving rc a)
promised rc a = record { answered = refl; samples_after = refl; ancillary_after = refl; marks_after = refl }

unfoldable pub receives : Receiver → List Arrival → List ReceiveCall
receives rc [] = []
receives rc (a ∷ came) = receiving rc a ∷ receives (receiving rc a).answer.state came

pub receives_in_a_row : (rc : Receiver) (came : List Arrival) → Receiving MeetsReceive rc (receives rc came)
unfolding Row receives
receives_in_a_row rc [] = tt
receives_in_a_row rc (a ∷ came) = (refl, promised rc a, receives_in_a_row (receiving rc a).answer.state came)

pub receives_these : (rc : Receiver) (came : List Arrival) → map taken (receives rc came) ≡ came
unfolding receives
receives_these rc [] = refl
receives_these rc (a ∷ came) = ap (λ l. a ∷ l) (receives_these (receiving rc a).answer.state came)

used_stays : (rc : Receiver) (a : Arrival) → R.used_now (answered rc a).state ≡ R.used_now rc
unfolding R.received_of R.after
used_stays rc a = split (eqb (R.receive_refusal rc a.cell a.indication 80 80 80) 0) (λ e. rw e) (λ e. rw e)

pub receives_with_room : (rc : Receiver) (came : List Arrival) → R.used_now rc ≤ 5 → Each WithRoom (receives rc came)
unfolding Each receives
receives_with_room rc [] few = tt
receives_with_room rc (a ∷ came) few =
    (always_room refl refl (omega arith), receives_with_room (receiving rc a).answer.state came (rw (used_stays rc a) few))

-- demand 3 on such calls of `send`, and on such calls of `receive` too
module _ (most row cells : ℕ) (Box : ReceiveCall → Type 0) (meets : Demand3 most row cells MeetsSend Box) (xs : List (ℕ × Fate))
    (none_refused : sends studio xs ≡ wrote (sends studio xs)) (within : length (trips studio xs) ≤ cells)
    (fair : Each (λ t. Fair most t.sent t.fate) (trips studio xs)) (few : longest 0 (trips studio xs) ≤ row)
  where
    pub plays : (calls : List ReceiveCall) → Receiving Box fresh calls → map taken calls ≡ arrivals (trips studio xs) → Each WithRoom calls
        → ComesOut fresh (trips studio xs) calls
    unfolding opened
    plays calls =
        meets studio (sends studio xs) (trips studio xs) calls (λ e. suc-ne-zero 3 e) (sends_in_a_row studio xs) none_refused within fair few

pub honest_plays : (most row cells : ℕ) → Demand3 most row cells MeetsSend MeetsReceive → (xs : List (ℕ × Fate))
    → sends studio xs ≡ wrote (sends studio xs) → length (trips studio xs) ≤ cells
    → Each (λ t. Fair most t.sent t.fate) (trips studio xs) → longest 0 (trips studio xs) ≤ row
    → ComesOut fresh (trips studio xs) (receives fresh (arrivals (trips studio xs)))
unfolding opened
honest_plays most row cells meets xs none_refused within fair few =
    plays most row cells MeetsReceive meets xs none_refused within fair few (receives fresh (arrivals (trips studio xs)))
    (receives_in_a_row fresh _) (receives_these fresh _) (receives_with_room fresh _ (omega arith))

-- a sender whose next cell has this number
abbrev pub studio_at : ℕ → Sender
studio_at n = record { format = 0x5A; channels = 5; order = 0; number = n; wanted = false; second = 0; sent = true }

-- what arrives of a cell that was sent
abbrev pub sent : Sender → ℕ → Arrival
sent st n = record { cell = (sending st n).written; indication = false }
