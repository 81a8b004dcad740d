-- Any loss is sharp: sixteen cells in a row do slip, and receivers that slip by eight or give sound samples out of order don't
-- meet it.
-- Assumes nothing.
use mathlib.Core.Bool.{Bool, true, false}
use mathlib.Core.List.{List, [], ◌∷◌, ◌++◌, map, reverse}
use mathlib.Core.Path.{◌≡◌, refl, ap}
use Prim.Native.Nat.{ℕ, ◌+◌, ◌*◌, ◌-◌, ◌≤◌}
use native.Mathlib.Nat.{le_refl, suc-ne-zero}
use native.Mathlib.Omega.{arith}
use lib.Dec.{ltb}
use lib.ListN.{length, get_or, drop, replicate}
use Rattle.runs.specs.Runs.{over}
use Rattle.receiver.specs.declared.Receiver.{Receiver}
use Rattle.receiver.specs.declared.Received.{Received}
use Rattle.receiver.specs.Receiver as R
use Rattle.reading.specs.Records.{Whole as Arrival}
use Rattle.reading.specs.Totals.{Each}
use Rattle.line.specs.Calls.{MeetsSend, ReceiveCall, MeetsReceive}
use Rattle.line.specs.Line.{
  Receiving,
  wrote,
  Fate,
  dropped,
  unaltered,
  Trip,
  Fair,
  longest,
  arrivals,
  taken,
  WithRoom,
  Place,
  handed,
  from_first,
  to_last,
  left_by,
  Demand3,
  refusals,
}
use Rattle.line.specs.Losses.{Shows, AnyLoss}
use Rattle.line.proofs.Examples.{
  always_room,
  studio,
  studio_at,
  fresh,
  sent,
  trips,
  sends,
  sends_in_a_row,
  call,
  answered,
  receiving,
  promised,
  receives,
  honest_plays,
}
use Rattle.line.proofs.Opened.{opened}

-- so many cells dropped between two, and one more cell behind them
abbrev pub outage : ℕ → List (ℕ × Fate)
outage n = ((1, unaltered 0) ∷ replicate n (0, dropped)) ++ ((2, unaltered 1) ∷ (3, unaltered 0) ∷ [])

abbrev pub plays : List (ℕ × Fate) → List ReceiveCall
plays xs = receives fresh (arrivals (trips studio xs))

-- what is shown of a row of cells: how many cells it was, from the first unaltered one to the last, what the calls answered, how
-- many cells they placed, and the marks
pub record Shown (sent placed : ℕ) (answers marks : List ℕ) (these : List Trip) (calls : List ReceiveCall) : Type 0 where
  pub were : length (to_last (from_first these)) ≡ sent
  pub placed_so : (left_by fresh calls).count ≡ placed
  pub answered_so : refusals calls ≡ answers
  pub marked_so : map (λ p. p.1.1) (handed calls) ≡ marks

-- fifteen: the next cell is refused 9 and lost too, and the one after it stands sixteen places too early
pub fifteen_slip : Shown 18 2 (0 ∷ 9 ∷ 9 ∷ 0 ∷ []) (replicate 10 0) (trips studio (outage 15)) (plays (outage 15))
unfolding opened trips receives
fifteen_slip = record { were = refl; placed_so = refl; answered_so = refl; marked_so = refl }

-- sixteen: all are taken, none is told missing, and both stand sixteen places too early
pub sixteen_slip : Shown 19 3 (0 ∷ 0 ∷ 9 ∷ 0 ∷ []) (replicate 15 0) (trips studio (outage 16)) (plays (outage 16))
unfolding opened trips receives
sixteen_slip = record { were = refl; placed_so = refl; answered_so = refl; marked_so = refl }

-- seventeen: one is told missing
pub seventeen_slip : Shown 20 4 (0 ∷ 0 ∷ 9 ∷ 0 ∷ []) (replicate 5 0 ++ replicate 5 2 ++ replicate 10 0) (trips studio (outage 17))
    (plays (outage 17))
unfolding opened trips receives
seventeen_slip = record { were = refl; placed_so = refl; answered_so = refl; marked_so = refl }

-- the theorem on calls of the examples' sender
module _ (Box : ReceiveCall → Type 0) (meets : AnyLoss 3 4294967295 MeetsSend Box) (xs : List (ℕ × Fate))
    (none_refused : sends studio xs ≡ wrote (sends studio xs)) (within : length (trips studio xs) ≤ 4294967295)
    (fair : Each (λ t. Fair 3 t.sent t.fate) (trips studio xs))
  where
    shows : (calls : List ReceiveCall) → Receiving Box fresh calls → map taken calls ≡ arrivals (trips studio xs)
        → Each WithRoom calls → Shows fresh (trips studio xs) calls
    unfolding opened
    shows calls =
        meets (longest 0 (trips studio xs)) studio (sends studio xs) (trips studio xs) calls (λ e. suc-ne-zero 3 e)
        (sends_in_a_row studio xs) none_refused within fair (le_refl _)

-- A receiver that tells numbers apart modulo 8 only: eight cells too few are missing where there are so many, and places slip by
-- 8.
abbrev slipped : Receiver → List ℕ → Bool → Received
slipped st cell indication =
    record {
      refusal = 0;
      state =
          record {
            format = st.format;
            channels = st.channels;
            order = st.order;
            started = true;
            last = R.number_now st cell;
            count = st.count + (R.gap_of st cell - 8);
          };
      missing = R.gap_of st cell - 9;
      number = R.number_now st cell;
      second = R.second_now st cell;
      indication = indication;
    }

abbrev past : Receiver → List ℕ → List ℕ
past st entries = drop (8 * R.used_now st) entries

pub record SlipsEight (c : ReceiveCall) : Type 0 where
  pub answer_slips : c.answer ≡ slipped c.state c.cell c.indication
  pub samples_slip : c.samples_after ≡ over (past c.state (R.samples_now c.state c.cell)) c.samples
  pub ancillary_slips : c.ancillary_after ≡ over (past c.state (R.ancillary_now c.state c.cell)) c.ancillary
  pub marks_slip : c.marks_after ≡ over (past c.state (R.marks_now c.state c.cell)) c.marks

abbrev EightWhen : Bool → ReceiveCall → Type 0
EightWhen false c = MeetsReceive c
EightWhen true c = SlipsEight c

abbrev pub Eights : ReceiveCall → Type 0
Eights c = EightWhen (ltb 8 (R.gap_of c.state c.cell)) c

lost_eight : List (ℕ × Fate)
lost_eight = ((1, unaltered 0) ∷ replicate 8 (0, dropped)) ++ ((2, unaltered 0) ∷ [])

abbrev one : Arrival
one = sent studio 1

abbrev first : ReceiveCall
first = receiving fresh one

pub not_by_eight : AnyLoss 3 4294967295 MeetsSend Eights → ⊥
unfolding opened trips lost_eight
not_by_eight meets =
    let st = first.answer.state in
    let tenth = sent (studio_at 9) 2 in
    let second = call st tenth (slipped st tenth.cell false) (past st (R.samples_now st tenth.cell))
    (past st (R.ancillary_now st tenth.cell)) (past st (R.marks_now st tenth.cell)) in
    let kept = shows Eights meets lost_eight refl (omega arith)
    (tt, (tt, (tt, (tt, (tt, (tt, (tt, (tt, (tt, (tt, tt)))))))))) (first ∷ second ∷ []) (
      refl,
      promised _ _,
      (refl, record { answer_slips = refl; samples_slip = refl; ancillary_slips = refl; marks_slip = refl }, tt),
    )
    refl (always_room refl refl (omega arith), (always_room refl refl (omega arith), tt)) in
    let lengths : ◌≡◌ {A = ℕ} 10 50 = ap length kept.handed_out in
    omega arith

-- A receiver that is right in all but the order of a cell's samples: it gives them from the last to the first, and marks them
-- sound.
pub record Reverses (c : ReceiveCall) : Type 0 where
  pub answer_right : c.answer
      ≡ R.received_of c.state c.cell c.indication (length c.samples) (length c.ancillary) (length c.marks)
  pub samples_back : c.samples_after ≡ over (reverse (R.samples_now c.state c.cell)) c.samples
  pub ancillary_right : c.ancillary_after ≡ over (R.ancillary_now c.state c.cell) c.ancillary
  pub marks_right : c.marks_after ≡ over (R.marks_now c.state c.cell) c.marks

only_one : List (ℕ × Fate)
only_one = (1, unaltered 0) ∷ []

pub not_out_of_order : AnyLoss 3 4294967295 MeetsSend Reverses → ⊥
unfolding opened trips only_one
not_out_of_order meets =
    let wrong = call fresh one (answered fresh one) (reverse (R.samples_now fresh one.cell)) (R.ancillary_now fresh one.cell)
    (R.marks_now fresh one.cell) in
    let kept = shows Reverses meets only_one refl (omega arith) (tt, tt) (wrong ∷ [])
    (refl, record { answer_right = refl; samples_back = refl; ancillary_right = refl; marks_right = refl }, tt)
    refl (always_room refl refl (omega arith), tt) in
    let sample : ◌≡◌ {A = ℕ} 0 1 = ap (λ (l : List Place). (get_or l 0 (0, (0, 0))).0) kept.sound in
    omega arith

-- demand 3 itself doesn't hold of sixteen
pub not_sixteen : Demand3 3 16 4294967295 MeetsSend MeetsReceive → ⊥
unfolding opened trips receives
not_sixteen meets =
    let kept = honest_plays 3 16 4294967295 meets (outage 16) refl (omega arith)
    (tt, (tt, (tt, (tt, (tt, (tt, (tt, (tt, (tt, (tt, (tt, (tt, (tt, (tt, (tt, (tt, (tt, (tt, (tt, tt)))))))))))))))))))
    (omega arith) in
    let places : ◌≡◌ {A = ℕ} 15 95 = ap length kept.handed_out in
    omega arith
