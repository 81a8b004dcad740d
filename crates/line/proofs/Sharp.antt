-- Demand 3 is sharp: wrong boxes don't meet it, fifteen lost cells in a row or four altered bits break it, and what it asks can be had.
-- Assumes nothing.
use mathlib.Core.Bool.{Bool, true, false}
use mathlib.Core.List.{List, [], ◌∷◌, ◌++◌, map}
use mathlib.Core.Path.{◌≡◌, refl, ap}
use Prim.Native.Nat.{ℕ, ◌+◌, ◌^◌, ◌≤◌}
use native.Mathlib.Nat.{suc-ne-zero}
use native.Mathlib.Omega.{arith}
use lib.ListN.{length, get_or, set, replicate}
use Rattle.runs.specs.Runs.{over}
use Rattle.sender.specs.declared.Sender.{Sender}
use Rattle.sender.specs.Sender as S
use Rattle.receiver.specs.declared.Received.{Received}
use Rattle.receiver.specs.Receiver as R
use Rattle.reading.specs.Records.{Whole as Arrival}
use Rattle.reading.specs.Totals.{Each}
use Rattle.line.specs.Calls.{SendCall, MeetsSend, ReceiveCall, MeetsReceive}
use Rattle.line.specs.Line.{
  Sending,
  Receiving,
  wrote,
  Fate,
  dropped,
  spoiled,
  unaltered,
  Trip,
  Fair,
  longest,
  arrivals,
  taken,
  WithRoom,
  Place,
  handed,
  left_by,
  Demand3,
  refusals,
}
use Rattle.line.proofs.Examples.{
  always_room,
  studio,
  fresh,
  sending,
  trips,
  sends,
  sends_in_a_row,
  call,
  answered,
  receiving,
  promised,
  receives,
  receives_in_a_row,
  receives_these,
  receives_with_room,
  plays,
  honest_plays,
  studio_at,
  sent,
}
use Rattle.line.proofs.Opened.{opened}

-- Fifteen lost cells in a row: the next cell's number is the last one's again, and it is refused.
lost_fifteen : List (ℕ × Fate)
lost_fifteen = ((1, unaltered 0) ∷ replicate 15 (0, dropped)) ++ ((2, unaltered 0) ∷ [])

pub not_fifteen : Demand3 3 15 4294967295 MeetsSend MeetsReceive → ⊥
unfolding opened trips receives lost_fifteen
not_fifteen meets =
    let kept = honest_plays 3 15 4294967295 meets lost_fifteen refl (omega arith)
    (tt, (tt, (tt, (tt, (tt, (tt, (tt, (tt, (tt, (tt, (tt, (tt, (tt, (tt, (tt, (tt, (tt, tt))))))))))))))))) (omega arith) in
    let lengths : ◌≡◌ {A = ℕ} 5 85 = ap length kept.handed_out in
    omega arith

-- Four altered bits may make another entry: number 1's eight bits and number 3's differ in four, and the cell is taken for number 3's.
four_altered : List (ℕ × Fate)
four_altered = (1, unaltered 0) ∷ (2, spoiled (sending (studio_at 3) 2).written false 0) ∷ []

pub not_four_bits : Demand3 4 14 4294967295 MeetsSend MeetsReceive → ⊥
unfolding opened trips receives four_altered
not_four_bits meets =
    let kept = honest_plays 4 14 4294967295 meets four_altered refl (omega arith) (tt, ((omega arith, omega arith), tt)) (omega arith) in
    let lengths : ◌≡◌ {A = ℕ} 20 5 = ap length kept.handed_out in
    omega arith

-- A sender that answers as it should and always gives the zero cell.
pub record ZeroCell (s : SendCall) : Type 0 where
  pub answer_right : s.answer ≡ S.sent_of s.state s.indication s.samples s.ancillary (length s.cell)
  pub always_zero : s.written ≡ replicate 48 0

abbrev zeros : SendCall
zeros =
    record {
      state = studio;
      indication = false;
      samples = 1 ∷ 0 ∷ 0 ∷ 0 ∷ 0 ∷ [];
      ancillary = replicate 5 0;
      cell = replicate 48 0;
      answer = S.sent_of studio false (1 ∷ 0 ∷ 0 ∷ 0 ∷ 0 ∷ []) (replicate 5 0) 48;
      written = replicate 48 0;
    }

pub not_zero_cell : Demand3 3 14 4294967295 ZeroCell MeetsReceive → ⊥
unfolding opened receives
not_zero_cell meets =
    let came : List Arrival = record { cell = replicate 48 0; indication = false } ∷ [] in
    let kept = meets studio (zeros ∷ []) (record { sent = zeros; fate = unaltered 0 } ∷ []) (receives fresh came) (λ e. suc-ne-zero 3 e)
    (refl, record { answer_right = refl; always_zero = refl }, tt) refl (omega arith) (tt, tt) (omega arith)
    (receives_in_a_row fresh came) (receives_these fresh came) (receives_with_room fresh came (omega arith)) in
    let lengths : ◌≡◌ {A = ℕ} 0 5 = ap length kept.handed_out in
    omega arith

-- A receiver that unpacks its first cell and only nods at later ones: it answers as it should and writes nothing.
pub record Nodding (c : ReceiveCall) : Type 0 where
  pub answer_right : c.answer ≡ R.received_of c.state c.cell c.indication (length c.samples) (length c.ancillary) (length c.marks)
  pub samples_stay : c.samples_after ≡ c.samples
  pub ancillary_stays : c.ancillary_after ≡ c.ancillary
  pub marks_stay : c.marks_after ≡ c.marks

abbrev NodsWhen : Bool → ReceiveCall → Type 0
NodsWhen false c = MeetsReceive c
NodsWhen true c = Nodding c

abbrev pub Nods : ReceiveCall → Type 0
Nods c = NodsWhen c.state.started c

both_sent : List (ℕ × Fate)
both_sent = (1, unaltered 0) ∷ (2, unaltered 0) ∷ []

pub not_nodding : Demand3 3 14 4294967295 MeetsSend Nods → ⊥
unfolding opened trips both_sent
not_nodding meets =
    let first = receiving fresh (sent studio 1) in
    let here = first.answer.state in
    let next = call here (sent (studio_at 1) 2) (answered here (sent (studio_at 1) 2)) [] [] [] in
    let kept = plays 3 14 4294967295 Nods meets both_sent refl (omega arith) (tt, (tt, tt)) (omega arith) (first ∷ next ∷ [])
    (refl, promised _ _, (refl, record { answer_right = refl; samples_stay = refl; ancillary_stays = refl; marks_stay = refl }, tt))
    refl (always_room refl refl (omega arith), (always_room refl refl (omega arith), tt)) in
    let sixth : ◌≡◌ {A = ℕ} 0 2 = ap (λ (l : List Place). (get_or l 5 (0, (0, 0))).0) kept.handed_out in
    omega arith

-- the answer with one cell more told missing
abbrev one_more_missing : Received → Received
one_more_missing r =
    record {
      refusal = r.refusal;
      state = r.state;
      missing = r.missing + 1;
      number = r.number;
      second = r.second;
      indication = r.indication;
    }

-- A receiver with an invented missing count, that writes the entries of the cell that it invented.
pub record Invents (c : ReceiveCall) : Type 0 where
  pub answer_invented : c.answer
      ≡ one_more_missing (R.received_of c.state c.cell c.indication (length c.samples) (length c.ancillary) (length c.marks))
  pub samples_invented : c.samples_after ≡ over (replicate (R.used_now c.state) 0 ++ R.samples_now c.state c.cell) c.samples
  pub ancillary_invented : c.ancillary_after
      ≡ over (replicate (R.used_now c.state) 0 ++ R.ancillary_now c.state c.cell) c.ancillary
  pub marks_invented : c.marks_after ≡ over (replicate (R.used_now c.state) 2 ++ R.marks_now c.state c.cell) c.marks

-- One that writes right and reports wrong.
pub record Misreports (c : ReceiveCall) : Type 0 where
  pub answer_wrong : c.answer
      ≡ one_more_missing (R.received_of c.state c.cell c.indication (length c.samples) (length c.ancillary) (length c.marks))
  pub samples_right : c.samples_after ≡ over (R.samples_now c.state c.cell) c.samples
  pub ancillary_right : c.ancillary_after ≡ over (R.ancillary_now c.state c.cell) c.ancillary
  pub marks_right : c.marks_after ≡ over (R.marks_now c.state c.cell) c.marks

only_one : List (ℕ × Fate)
only_one = (1, unaltered 0) ∷ []

abbrev one : Arrival
one = sent studio 1

pub not_invented : Demand3 3 14 4294967295 MeetsSend Invents → ⊥
unfolding opened trips only_one
not_invented meets =
    let wrong = call fresh one (one_more_missing (answered fresh one)) (replicate 5 0 ++ R.samples_now fresh one.cell)
    (replicate 5 0 ++ R.ancillary_now fresh one.cell) (replicate 5 2 ++ R.marks_now fresh one.cell) in
    let kept = plays 3 14 4294967295 Invents meets only_one refl (omega arith) (tt, tt) (omega arith) (wrong ∷ [])
    (refl, record { answer_invented = refl; samples_invented = refl; ancillary_invented = refl; marks_invented = refl }, tt)
    refl (always_room refl refl (omega arith), tt) in
    let lengths : ◌≡◌ {A = ℕ} 10 5 = ap length kept.handed_out in
    omega arith

pub not_misreported : Demand3 3 14 4294967295 MeetsSend Misreports → ⊥
unfolding opened trips only_one
not_misreported meets =
    let wrong = call fresh one (one_more_missing (answered fresh one)) (R.samples_now fresh one.cell) (R.ancillary_now fresh one.cell)
    (R.marks_now fresh one.cell) in
    let kept = plays 3 14 4294967295 Misreports meets only_one refl (omega arith) (tt, tt) (omega arith) (wrong ∷ [])
    (refl, record { answer_wrong = refl; samples_right = refl; ancillary_right = refl; marks_right = refl }, tt)
    refl (always_room refl refl (omega arith), tt) in
    let lengths : ◌≡◌ {A = ℕ} 10 5 = ap length kept.handed_out in
    omega arith

-- What demand 3 asks can be had: cells lost before the first unaltered one, between, and after the last, copies of lost and of unaltered
-- cells, and a refused call of `send`.
-- a cell with its first sequencing bit as this octet has it
abbrev pub altered : ℕ → ℕ → List ℕ
altered n octet = set (sending (studio_at n) n).written 5 octet

unfoldable pub lossy : List (ℕ × Fate)
lossy =
    (0, spoiled (altered 0 15) true 1)
    ∷ (1, unaltered 2)
    ∷ (2, dropped)
    ∷ (3, spoiled (altered 3 7) false 0)
    ∷ (4, unaltered 1)
    ∷ (5, dropped)
    ∷ (6, spoiled (altered 6 15) false 3)
    ∷ []

-- five samples are asked, and one was too large
abbrev too_large : Sender → SendCall
too_large st = sending st (2 ^ 40)

pub record CanBeHad (sent : List SendCall) (these : List Trip) (calls : List ReceiveCall) : Type 0 where
  pub one_refused : (too_large studio).answer.refusal ≡ 6
  pub in_a_row : Sending MeetsSend studio sent
  pub wrote_these : map (λ t. t.sent) these ≡ wrote sent
  pub fair : Each (λ t. Fair 3 t.sent t.fate) these
  pub within : length these ≤ 4294967295
  pub few : longest 0 these ≤ 14
  pub meets : Receiving MeetsReceive fresh calls
  pub came : map taken calls ≡ arrivals these
  pub room : Each WithRoom calls
  pub marks : map (λ p. p.1.1) (handed calls) ≡ replicate 5 0 ++ replicate 10 2 ++ replicate 5 0
  pub placed : (left_by fresh calls).count ≡ 4
  pub refused : refusals calls ≡ 8 ∷ 8 ∷ 0 ∷ 9 ∷ 9 ∷ 8 ∷ 0 ∷ 9 ∷ replicate 4 8

pub can_be_had : CanBeHad (too_large studio ∷ sends studio lossy) (trips studio lossy) (receives fresh (arrivals (trips studio lossy)))
unfolding opened trips receives lossy
can_be_had =
    record {
      one_refused = refl;
      in_a_row = (refl, record { answered = refl; cell_after_lem = refl }, sends_in_a_row studio lossy);
      wrote_these = refl;
      fair = ((omega arith, omega arith), (tt, (tt, ((omega arith, omega arith), (tt, (tt, ((omega arith, omega arith), tt)))))));
      within = omega arith;
      few = omega arith;
      meets = receives_in_a_row fresh (arrivals (trips studio lossy));
      came = receives_these fresh (arrivals (trips studio lossy));
      room = receives_with_room fresh (arrivals (trips studio lossy)) (omega arith);
      marks = refl;
      placed = refl;
      refused = refl;
    }
