-- Cells in a row: what a receiver hands out, by induction over the trips.
-- Assumes nothing.
use mathlib.Core.Bool.{Bool, true, false, true≢false, cond, not, ◌&&◌, ◌||◌}
use mathlib.Core.List.{List, [], ◌∷◌, ◌++◌, map, flat_map, nil≢cons, head-eq_of_cons-eq, tail-eq_of_cons-eq}
use mathlib.Core.Path.{◌≡◌, refl, sym, ◌∙◌, ap, ap₂, subst}
use Prim.Native.Nat.{ℕ, zero, suc, ◌+◌, ◌*◌, ◌%◌, ◌≤◌}
use native.Mathlib.Nat.{suc-ne-zero}
use native.Mathlib.Omega.{arith}
use borrow.Author.Tests.{eq-eqb, ne_eqb, le-ltb, eqb-true, eqb-false}
use lib.Dec.{eqb}
use lib.ListN.{length, replicate}
use Rattle.std.specs.Prelude.{Option, Some}
use Rattle.runs.proofs.Laws.{split}
use Rattle.formats.specs.Formats.{format_of}
use Rattle.numbers.specs.Numbers.{value_of}
use Rattle.sender.specs.declared.Sender.{Sender}
use Rattle.sender.specs.Sender as S
use Rattle.receiver.specs.declared.Receiver.{Receiver}
use Rattle.receiver.specs.Receiver as R
use Rattle.reading.specs.Records.{Whole as Arrival}
use Rattle.reading.specs.Totals.{total_of, those, Each}
use Rattle.line.specs.Calls.{SendCall, MeetsSend, ReceiveCall, MeetsReceive}
use Rattle.line.specs.Demands.{InSettings}
use Rattle.line.specs.Line.{
  Row,
  Sending,
  Receiving,
  wrote,
  Fate,
  dropped,
  spoiled,
  unaltered,
  is_lost,
  Trip,
  Fair,
  arrival_of,
  arrivals,
  taken,
  WithRoom,
  Place,
  handed,
  places_of,
  left_by,
  refusals,
}
use Rattle.line.specs.Losses.{
  Since,
  never,
  after,
  lost_since,
  one_more,
  comes_round,
  Told,
  is_taken,
  story_from,
  taken_from,
  missing_before,
  places_with,
  refusals_at,
  refusals_with,
}
use Rattle.line.specs.Seconds.{took_in}
use Rattle.line.proofs.Calls.{sends_or_nothing, receives_or_nothing, tells}
use Rattle.line.proofs.Cells.{next_state, settings_on, state_passes, found_there, used_in_lem}
use Rattle.line.proofs.Pieces.{Piece, piece_of, piece_with, second_said, own_places, one_taken}
use Rattle.line.proofs.Repeats.{repeat_gets_9}
use Rattle.line.proofs.Steps.{difference_after, number_after, spoiled_gets, round_gets, took}

-- the calls of a sender without those that were refused are in a row too
abbrev pub Wrote : SendCall → Type 0
Wrote s = MeetsSend s × (s.answer.refusal ≡ 0)

pub only_written : (sends : List SendCall) (st : Sender) → Sending MeetsSend st sends → Sending Wrote st (wrote sends)
unfolding Row wrote
only_written [] st row = tt
only_written (s ∷ sends) st row =
    split (eqb s.answer.refusal 0)
    (λ e. rw e (row.0, (row.1, eqb-true _ 0 e), only_written sends s.answer.state row.2))
    (λ e.
    let stays = ((sends_or_nothing s row.1).then_nothing (eqb-false _ 0 e)).state_as_given in
    rw e (subst (λ (x : Sender). Sending Wrote x (wrote sends)) (stays ∙ row.0) (only_written sends s.answer.state row.2)))

pub each_wrote : (st : Sender) (ts : List Trip) → Sending Wrote st (map (λ t. t.sent) ts) → Each (λ t. Wrote t.sent) ts
unfolding Row Each
each_wrote st [] row = tt
each_wrote st (t ∷ ts) row = (row.1, each_wrote t.sent.answer.state ts row.2)

-- a receiver's state beside the sender's
abbrev Stands : Sender → Receiver → Since → Type 0
Stands st rc never = (rc.started ≡ false) × (rc.last ≡ 0) × (rc.count ≡ 0)
Stands st rc (after k) = (rc.started ≡ true) × (rc.last ≤ 15) × (st.number ≡ (rc.last + 1 + k) % 16)

pub record Beside (st : Sender) (rc : Receiver) (since : Since) : Type 0 where
  pub with_overhead : (format_of st.format).overhead_bits ≡ 0 → ⊥
  pub same : InSettings st rc
  pub stands : Stands st rc since

-- the calls of a receiver on what arrives
pub record Takes (rc : Receiver) (calls : List ReceiveCall) (came : List Arrival) : Type 0 where
  pub meets : Receiving MeetsReceive rc calls
  pub these : map taken calls ≡ came
  pub room : Each WithRoom calls

-- the count stays within its bound, whatever becomes of the cells
abbrev pub Within : Receiver → Since → List Trip → Type 0
Within rc since ts = rc.count + lost_since since + length ts ≤ 4294967295

-- how many cells are shown with one that is taken
abbrev pub cells_with : Told → ℕ
cells_with x = suc (missing_before x)

-- what calls come to: they hand out and count the cells that are taken, each with the missing ones before it, and each cell's
-- deliveries get their refusals
pub record Comes (rc : Receiver) (place : ℕ) (since : Since) (ts : List Trip) (calls : List ReceiveCall) : Type 0 where
  pub hands : handed calls ≡ flat_map places_with (taken_from place since ts)
  pub counts : (left_by rc calls).count ≡ rc.count + total_of cells_with (taken_from place since ts)
  pub answers : refusals calls ≡ flat_map refusals_with (story_from place since ts)
  pub pieces : map piece_of (took_in calls) ≡ map piece_with (taken_from place since ts)

-- calls that are all refused alike hand out nothing, and the rest goes on from the state that was there
record Skipped (again refusal : ℕ) (rc : Receiver) (calls : List ReceiveCall) (came : List Arrival) : Type 0 where
  rest : List ReceiveCall
  takes : Takes rc rest came
  hands : handed calls ≡ handed rest
  leaves : left_by rc calls ≡ left_by rc rest
  answers : refusals calls ≡ replicate again refusal ++ refusals rest
  takes_none : took_in calls ≡ took_in rest

module _ {refusal : ℕ} (some : refusal ≡ 0 → ⊥) {a : Arrival} {came : List Arrival} {rc : Receiver}
    (each : (c : ReceiveCall) → MeetsReceive c → c.state ≡ rc → taken c ≡ a → WithRoom c → c.answer.refusal ≡ refusal)
  where
    skip : (again : ℕ) (calls : List ReceiveCall) → Takes rc calls (replicate again a ++ came) → Skipped again refusal rc calls came
    unfolding Row Each flat_map left_by those
    skip zero calls takes = record { rest = calls; takes = takes; hands = refl; leaves = refl; answers = refl; takes_none = refl }
    skip (suc again) [] takes = absurd (nil≢cons takes.these)
    skip (suc again) (c ∷ cs) takes =
        let is = each c takes.meets.1 takes.meets.0 (head-eq_of_cons-eq takes.these) takes.room.0 in
        let refused : c.answer.refusal ≡ 0 → ⊥ = λ e. some (sym is ∙ e) in
        let stays = ((receives_or_nothing c takes.meets.1).then_nothing refused).nothing_answered.state_as_given ∙ takes.meets.0 in
        let later = skip again cs
        (subst (λ (x : Receiver). Takes x cs (replicate again a ++ came)) stays
        (record { meets = takes.meets.2; these = tail-eq_of_cons-eq takes.these; room = takes.room.1 })) in
        record {
          rest = later.rest;
          takes = later.takes;
          hands = rw (ne_eqb c.answer.refusal 0 refused) later.hands;
          leaves = ap (λ (x : Receiver). left_by x cs) stays ∙ later.leaves;
          answers = ap₂ (λ (n : ℕ) (l : List ℕ). n ∷ l) is later.answers;
          takes_none = rw (ne_eqb c.answer.refusal 0 refused) later.takes_none;
        }

and_false : (b : Bool) → b && false ≡ false
and_false true = refl
and_false false = refl

overhead_there : {st : Sender} {rc : Receiver} {since : Since} → Beside st rc since → (format_of rc.format).overhead_bits ≡ 0 → ⊥
overhead_there beside e = beside.with_overhead (ap (λ (x : ℕ). (format_of x).overhead_bits) (sym beside.same.format) ∙ e)

fourth_passes : {st : Sender} {rc : Receiver} (since : Since) → Beside st rc since → R.last_refused rc || R.count_refused rc ≡ false
unfolding R.last_refused R.count_refused
fourth_passes never beside = rw (beside.stands.0, beside.stands.1, beside.stands.2)
fourth_passes {rc = rc} (after k) beside =
    rw (le-ltb _ _ beside.stands.1, beside.stands.0, ne_eqb _ 0 (overhead_there beside))
    (ap (λ (b : Bool). b || false) (and_false (not (eqb rc.last 0))))

number_of : {found : Option ℕ} {n : ℕ} → found ≡ Some n → value_of found ≡ n
unfolding value_of
number_of e = ap value_of e

-- the number of the next cell, k cells being lost since the last one: its difference
gap_is : {st : Sender} {rc : Receiver} (since : Since) (cell : List ℕ) → Beside st rc since
    → R.found_now rc cell ≡ Some st.number → R.gap_of rc cell ≡ (lost_since since + 1) % 16
unfolding R.gap_of
gap_is never cell beside found = rw beside.stands.0
gap_is {rc = rc} (after k) cell beside found =
    rw (number_of found, ne_eqb _ 0 (overhead_there beside), beside.stands.2, beside.stands.0)
    (difference_after rc.last k beside.stands.1)

round_gap : (since : Since) → comes_round since ≡ true → (lost_since since + 1) % 16 ≡ 0
round_gap never e = absurd (true≢false (sym e))
round_gap (after k) e = let last : k % 16 ≡ 15 = eqb-true _ _ e in omega arith

some_gap : (since : Since) → comes_round since ≡ false → (lost_since since + 1) % 16 ≡ suc (lost_since since % 16)
some_gap never e = refl
some_gap (after k) e = let other : k % 16 ≡ 15 → ⊥ = eqb-false _ _ e in omega arith

none_lost : (n : ℕ) → n + 1 ≡ n + 1 + 0
none_lost n = omega arith

pub refused_so : (whole : Bool) → cond {A = ℕ} whole 8 5 ≡ 0 → ⊥
refused_so true = suc-ne-zero 7
refused_so false = suc-ne-zero 4

-- sums of counts
none_more : (n : ℕ) → n ≡ n + 0
none_more n = omega arith

placed_on : {left now before first : ℕ} (k rest : ℕ) → left ≡ now + rest → now ≡ before + suc k → before ≡ first
    → left ≡ first + (suc k + rest)
placed_on k rest here there start = omega arith

within_lost : (since : Since) (rc : Receiver) (t : Trip) (ts : List Trip) → Within rc since (t ∷ ts)
    → Within rc (one_more since) ts
within_lost never rc t ts few = let less : rc.count + 0 + suc (length ts) ≤ 4294967295 = few in omega arith
within_lost (after k) rc t ts few = let less : rc.count + k + suc (length ts) ≤ 4294967295 = few in omega arith

within_now : (st : Receiver) (cell : List ℕ) (k n : ℕ) → R.gap_of st cell ≡ suc (k % 16) → st.count + k + suc n ≤ 4294967295
    → R.count_after st cell ≤ 4294967295
unfolding R.count_after
within_now st cell k n gap few =
    subst (λ (d : ℕ). st.count + d ≤ 4294967295) (sym gap) (let less : k % 16 ≤ k = omega arith in omega arith)

within_next : (now before k n : ℕ) → now ≡ before + suc (k % 16) → before + k + suc n ≤ 4294967295 → now + 0 + n ≤ 4294967295
within_next now before k n counted few = let less : k % 16 ≤ k = omega arith in omega arith

-- one trip more, what follows being known
module _ (t : Trip) (ts : List Trip) (sends : MeetsSend t.sent) (sent : t.sent.answer.refusal ≡ 0)
    (fair : Fair 3 t.sent t.fate)
    (follows : (rc : Receiver) (place : ℕ) (since : Since) (calls : List ReceiveCall) → Beside t.sent.answer.state rc since
    → Within rc since ts → Takes rc calls (arrivals ts) → Comes rc place since ts calls)
  where
    abbrev s : SendCall
    s = t.sent

    -- the sender goes on in its settings
    next_overhead : ((S.format_now s.state).overhead_bits ≡ 0 → ⊥) → (format_of s.answer.state.format).overhead_bits ≡ 0 → ⊥
    unfolding S.after
    next_overhead some e = some (ap (λ x. (format_of x.format).overhead_bits) (sym (next_state s sends sent)) ∙ e)

    next_number : s.answer.state.number ≡ (s.state.number + 1) % 16
    unfolding S.after
    next_number = ap (λ x. x.number) (next_state s sends sent)

    stands_on : (rc : Receiver) (since : Since) → Stands s.state rc since → Stands s.answer.state rc (one_more since)
    stands_on rc never stands = stands
    stands_on rc (after k) stands =
        (stands.0, stands.1, next_number ∙ ap (λ (n : ℕ). (n + 1) % 16) stands.2 ∙ number_after rc.last k)

    -- a receiver that stayed as it was when the cell was lost
    beside_lost : {rc : Receiver} (since : Since) → Beside s.state rc since → Beside s.answer.state rc (one_more since)
    beside_lost {rc} since beside =
        record {
          with_overhead = next_overhead beside.with_overhead;
          same = settings_on s sends sent beside.same;
          stands = stands_on rc since beside.stands;
        }

    module _ (rc : Receiver) (place : ℕ) (since : Since) (beside : Beside s.state rc since)
        (within : Within rc since (t ∷ ts)) where
      abbrev ComesOf : Fate → Type 0
      ComesOf fate =
          t.fate ≡ fate → (calls : List ReceiveCall) → Takes rc calls (arrival_of s fate ++ arrivals ts)
          → Comes rc place since (t ∷ ts) calls

      -- the refusals of this cell's deliveries and of those that follow
      answered : {fate : Fate} {answers rest : List ℕ} → t.fate ≡ fate → answers ≡ refusals_at (comes_round since) fate ++ rest
          → {later : List ℕ} → rest ≡ later → answers ≡ refusals_at (comes_round since) t.fate ++ later
      answered e here there = here ∙ ap₂ (λ (f : Fate) (l : List ℕ). refusals_at (comes_round since) f ++ l) (sym e) there

      -- a cell that is not taken: calls that are all refused alike, and then those that follow
      not_taken : {fate : Fate} (again refusal : ℕ) → t.fate ≡ fate
          → is_taken (record { trip = t; place = place; since = since }) ≡ false
          → refusals_at (comes_round since) fate ≡ replicate again refusal → {calls : List ReceiveCall}
          → Skipped again refusal rc calls (arrivals ts) → Comes rc place since (t ∷ ts) calls
      unfolding story_from those total_of flat_map
      not_taken again refusal e lost these skipped =
          let on = follows rc (suc place) (one_more since) skipped.rest (beside_lost since beside)
          (within_lost since rc t ts within) skipped.takes in
          record {
            hands = skipped.hands ∙ on.hands ∙ rw lost;
            counts = ap (λ (x : Receiver). x.count) skipped.leaves ∙ on.counts ∙ rw lost;
            answers =
                answered e (skipped.answers ∙ ap (λ (l : List ℕ). l ++ refusals skipped.rest) (sym these)) on.answers
                ∙ rw lost;
            pieces = ap (map piece_of) skipped.takes_none ∙ on.pieces ∙ rw lost;
          }

      trip_dropped : ComesOf dropped
      trip_dropped e calls takes =
          not_taken 0 8 e (rw (ap is_lost e)) refl
          (record { rest = calls; takes = takes; hands = refl; leaves = refl; answers = refl; takes_none = refl })

      trip_spoiled : {came : List ℕ} {indication : Bool} {again : ℕ} → ComesOf (spoiled came indication again)
      trip_spoiled {came} {again = again} e calls takes =
          let bits = subst (Fair 3 s) e fair in
          not_taken (suc again) (cond (eqb (length came) 48) 8 5) e (rw (ap is_lost e)) refl
          (skip (refused_so (eqb (length came) 48))
          (λ c meets at is room.
          let here = subst (λ (x : Receiver). Beside s.state x since) (sym at) beside in
          spoiled_gets s sends sent beside.with_overhead c meets here.same (ap (λ x. x.cell) is) bits.0 bits.1
          (fourth_passes since here) room)
          (suc again) calls takes)

      -- an unaltered one whose number comes round is refused each time
      trip_round : comes_round since ≡ true → {again : ℕ} → ComesOf (unaltered again)
      trip_round round {again} e calls takes =
          not_taken (suc again) 9 e (rw (ap is_lost e, round)) (rw round)
          (skip (suc-ne-zero 8)
          (λ c meets at is room.
          let here = subst (λ (x : Receiver). Beside s.state x since) (sym at) beside in
          let arrived = ap (λ x. x.cell) is in
          let found = found_there s sends sent here.with_overhead c here.same arrived in
          round_gets s sends sent beside.with_overhead c meets here.same arrived (ap (λ x. x.indication) is) room
          (fourth_passes since here) (gap_is since c.cell here found ∙ round_gap since round))
          (suc again) calls takes)

      -- any other one is taken
      trip_taken : comes_round since ≡ false → {again : ℕ} → ComesOf (unaltered again)
      unfolding places_of Row Each flat_map story_from those total_of left_by
      trip_taken turns e [] takes = absurd (nil≢cons takes.these)
      trip_taken turns {again} e (c ∷ cs) takes =
          let kept = ap is_lost e in
          let here : Beside s.state c.state since
          = subst (λ (x : Receiver). Beside s.state x since) (sym takes.meets.0) beside in
          let first = head-eq_of_cons-eq takes.these in
          let arrived = ap (λ x. x.cell) first in
          let bound : Within c.state since (t ∷ ts)
          = subst (λ (x : Receiver). Within x since (t ∷ ts)) (sym takes.meets.0) within in
          let gap = gap_is since c.cell here (found_there s sends sent here.with_overhead c here.same arrived)
          ∙ some_gap since turns in
          let done = took s sends sent here.with_overhead c takes.meets.1 here.same arrived (ap (λ x. x.indication) first)
          takes.room.0 (fourth_passes since here) gap
          (within_now c.state c.cell (lost_since since) (length ts) gap bound) in
          let next : Beside s.answer.state c.answer.state (after 0)
          = record {
            with_overhead = next_overhead beside.with_overhead;
            same = done.settings;
            stands = (
              done.started,
              rw done.last (state_passes s sends sent).number_to,
              next_number ∙ rw done.last (ap (λ (n : ℕ). n % 16) (none_lost s.state.number)),
            );
          } in
          let skipped = skip (suc-ne-zero 8)
          (λ d meets at is room.
          (repeat_gets_9 c d takes.meets.1 done.refused_not (overhead_there here) at (is ∙ sym first)
          room.ancillary_equal room.marks_equal meets).0)
          again cs (record { meets = takes.meets.2; these = tail-eq_of_cons-eq takes.these; room = takes.room.1 }) in
          let on = follows c.answer.state (suc place) (after 0) skipped.rest next
          (within_next c.answer.state.count c.state.count (lost_since since) (length ts) done.counted bound)
          skipped.takes in
          let said = tells s c sends sent here.same arrived takes.meets.1 done.refused_not here.with_overhead in
          let piece : piece_of c ≡ piece_with (record { trip = t; place = place; since = since })
          = λ i. (
            record {
              missing = done.tells_missing i;
              number = said.number_told i;
              second = second_said s c said i;
            },
            (used_in_lem here.same i, (done.hands ∙ own_places t kept (lost_since since % 16 * S.used_now s.state)) i),
          ) in
          record {
            hands =
                ap₂ (λ (x y : List Place). x ++ y) done.hands (skipped.hands ∙ on.hands)
                ∙ rw (kept, turns, kept);
            counts =
                placed_on (lost_since since % 16) (total_of cells_with (taken_from (suc place) (after 0) ts))
                (ap (λ (x : Receiver). x.count) skipped.leaves ∙ on.counts)
                done.counted (ap (λ (x : Receiver). x.count) takes.meets.0)
                ∙ rw (kept, turns);
            answers =
                answered e
                (ap₂ (λ (n : ℕ) (l : List ℕ). n ∷ l) done.refused_not skipped.answers ∙ rw turns) on.answers
                ∙ rw (kept, turns);
            pieces =
                ap (λ (b : Bool). map piece_of (cond b (c ∷ took_in cs) (took_in cs))) (eq-eqb c.answer.refusal 0 done.refused_not)
                ∙ ap₂ (λ (x : Piece) (l : List Piece). x ∷ l) piece (ap (map piece_of) skipped.takes_none ∙ on.pieces)
                ∙ one_taken t place since ts kept turns;
          }

      pub trip_any : (fate : Fate) → ComesOf fate
      trip_any dropped = trip_dropped
      trip_any (spoiled came indication again) = trip_spoiled
      trip_any (unaltered again) = split (comes_round since) (λ round. trip_round round) (λ turns. trip_taken turns)

pub comes : (ts : List Trip) (st : Sender) (rc : Receiver) (place : ℕ) (since : Since) (calls : List ReceiveCall)
    → Sending Wrote st (map (λ t. t.sent) ts) → Each (λ t. Fair 3 t.sent t.fate) ts
    → Beside st rc since → Within rc since ts → Takes rc calls (arrivals ts) → Comes rc place since ts calls
unfolding Row Each flat_map story_from those total_of left_by
comes [] st rc place since [] row fair beside within takes =
    record { hands = refl; counts = none_more rc.count; answers = refl; pieces = refl }
comes [] st rc place since (c ∷ cs) row fair beside within takes = absurd (nil≢cons (sym takes.these))
comes (t ∷ ts) st rc place since calls row fair beside within takes =
    trip_any t ts row.1.0 row.1.1 fair.0
    (λ rc₁ place₁ since₁ calls₁ beside₁ within₁ takes₁.
    comes ts t.sent.answer.state rc₁ place₁ since₁ calls₁ row.2 fair.1 beside₁ within₁ takes₁)
    rc place since (subst (λ (x : Sender). Beside x rc since) (sym row.0) beside) within t.fate refl calls takes
