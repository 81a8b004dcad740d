-- 119 is sharp: of a sender that counts blocks, 120 cells lost behind number 7 aren't told. And no limit on the lost cells in a row
-- does: fifteen lost and one unaltered, nine times over, is told as sixteen, where 144 cells slipped.
-- Assumes nothing.
use mathlib.Core.Bool.{Bool, true, false}
use mathlib.Core.List.{List, [], ◌∷◌, ◌++◌, map}
use mathlib.Core.Path.{◌≡◌, refl, ap}
use Prim.Native.Nat.{ℕ, zero, suc, ◌%◌, ◌≤◌}
use native.Mathlib.Nat.{suc-ne-zero}
use native.Mathlib.Omega.{arith}
use borrow.Author.Tests.{eq-eqb}
use lib.Dec.{eqb}
use lib.ListN.{get_or, replicate}
use Rattle.runs.proofs.Laws.{split}
use Rattle.sender.specs.declared.Sender.{Sender}
use Rattle.sender.specs.Sender as S
use Rattle.receiver.specs.declared.Receiver.{Receiver}
use Rattle.receiver.specs.Receiver as R
use Rattle.reading.specs.Heard.{given, hear}
use Rattle.reading.specs.Totals.{Each}
use Rattle.slips.specs.Slips.{starts_of, behind_of, slip_of}
use Rattle.slips.specs.Reports.{told_after, told_of}
use Rattle.line.specs.Calls.{SendCall, MeetsSend, MeetsReceive}
use Rattle.line.specs.Line.{Row, Sending, Fate, dropped, unaltered, Trip, Fair, arrivals, OverTheLine}
use Rattle.line.specs.Seconds.{CountsBlocks, TellsAll, SlipsExact}
use Rattle.line.proofs.Opened.{opened}
use Rattle.line.proofs.Played.{calls_for, calls_in_a_row, calls_take, calls_room}

-- twelve channels in 56 hex, the first cell to have number 7
abbrev counter : Sender
counter = S.open_state 0x56 12 0 7 true 0

abbrev fresh : Receiver
fresh = R.open_state 0x56 12 0

abbrev counting : Sender → SendCall
counting st =
    record {
      state = st;
      indication = eqb (st.number % 8) 0;
      samples = replicate 12 0;
      ancillary = replicate 12 0;
      cell = replicate 48 0;
      answer = S.sent_of st (eqb (st.number % 8) 0) (replicate 12 0) (replicate 12 0) 48;
      written = S.cell_after st (eqb (st.number % 8) 0) (replicate 12 0) (replicate 12 0) (replicate 48 0);
    }

-- each cell comes unaltered or not at all
abbrev fate_of : Bool → Fate
fate_of true = unaltered 0
fate_of false = dropped

unfoldable counted : Sender → List Bool → List Trip
counted st [] = []
counted st (b ∷ bs) = record { sent = counting st; fate = fate_of b } ∷ counted (counting st).answer.state bs

in_a_row : (st : Sender) (bs : List Bool) → Sending MeetsSend st (map (λ t. t.sent) (counted st bs))
unfolding Row counted
in_a_row st [] = tt
in_a_row st (b ∷ bs) = (refl, record { answered = refl; cell_after_lem = refl }, in_a_row (counting st).answer.state bs)

fair_one : (b : Bool) (s : SendCall) → Fair 3 s (fate_of b)
fair_one true s = tt
fair_one false s = tt

all_fair : (st : Sender) (bs : List Bool) → Each (λ t. Fair 3 t.sent t.fate) (counted st bs)
unfolding Each counted
all_fair st [] = tt
all_fair st (b ∷ bs) = (fair_one b (counting st), all_fair (counting st).answer.state bs)

still_wanted : (st : Sender) → st.wanted ≡ true → (counting st).answer.state.wanted ≡ true
unfolding S.sent_of S.after
still_wanted st wanted =
    split (eqb (S.send_refusal st (eqb (st.number % 8) 0) (replicate 12 0) (replicate 12 0) 48) 0) (λ e. rw e wanted) (λ e. rw e wanted)

counts : (st : Sender) (bs : List Bool) → st.wanted ≡ true → CountsBlocks (counted st bs)
unfolding Each counted
counts st [] wanted = tt
counts st (b ∷ bs) wanted = ((wanted, λ z. eq-eqb (st.number % 8) 0 z), counts (counting st).answer.state bs (still_wanted st wanted))

outage : List Bool
outage = (true ∷ replicate 120 false) ++ (true ∷ [])

none_few : ◌≤◌ 0 120
none_few = omega arith

all_few : ◌≤◌ 120 120
all_few = omega arith

apart : ◌≡◌ {A = ℕ} 0 112 → ⊥
apart e = omega arith

sent_few : ◌≤◌ 122 4294967295
sent_few = omega arith

pub not_120 : SlipsExact 120 3 4294967295 MeetsSend MeetsReceive → ⊥
unfolding opened outage counted SlipsExact told_of told_after slip_of behind_of starts_of calls_for hear given R.judged_of
not_120 meets =
    let trips = counted counter outage in
    let tells = meets 120 counter (map (λ t. t.sent) trips) trips (calls_for fresh (arrivals trips)) (λ e. suc-ne-zero 3 e)
    (in_a_row counter outage) refl sent_few (all_fair counter outage) all_few
    (calls_in_a_row fresh (arrivals trips)) (calls_take fresh (arrivals trips)) (calls_room fresh (arrivals trips))
    (counts counter outage refl) (none_few, (all_few, tt)) in
    apart (ap (λ (l : List ℕ). get_or l 1 0) tells.exact)

-- fifteen lost and one unaltered, so many times
unfoldable rounds : ℕ → List Bool
rounds zero = []
rounds (suc n) = replicate 15 false ++ (true ∷ rounds n)

nine : List Bool
nine = true ∷ (rounds 9 ++ (true ∷ []))

row_few : ◌≤◌ 15 15
row_few = omega arith

sent_few_too : ◌≤◌ 146 4294967295
sent_few_too = omega arith

apart_too : ◌≡◌ {A = ℕ} 16 144 → ⊥
apart_too e = omega arith

pub not_by_rows : OverTheLine 3 15 4294967295 MeetsSend MeetsReceive (λ fresh trips receives. CountsBlocks trips → TellsAll fresh trips receives) → ⊥
unfolding opened nine rounds counted told_of told_after slip_of behind_of starts_of calls_for hear given R.judged_of
not_by_rows meets =
    let trips = counted counter nine in
    let tells = meets counter (map (λ t. t.sent) trips) trips (calls_for fresh (arrivals trips)) (λ e. suc-ne-zero 3 e)
    (in_a_row counter nine) refl sent_few_too (all_fair counter nine) row_few
    (calls_in_a_row fresh (arrivals trips)) (calls_take fresh (arrivals trips)) (calls_room fresh (arrivals trips))
    (counts counter nine refl) in
    apart_too (ap (λ (l : List ℕ). get_or l 1 0) tells.exact)
