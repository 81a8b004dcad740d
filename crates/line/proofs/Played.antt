-- The records of a log as calls of `receive`: what is made of them is what the calls answer and hand out.
-- Assumes nothing.
use mathlib.Core.Bool.{cond}
use mathlib.Core.List.{List, [], ◌∷◌, ◌++◌, map, flat_map, zip, zip_with}
use mathlib.Core.Path.{◌≡◌, refl, sym, ◌∙◌, ap, ap₂}
use Prim.Native.Nat.{ℕ, ◌+◌, ◌*◌, ◌-◌}
use native.Mathlib.Nat.{suc-mul}
use native.Mathlib.Numerals.{add-one}
use native.Mathlib.Omega.{arith}
use borrow.Author.Tests.{eqb-true}
use lib.Dec.{eqb}
use lib.ListN.{length, take, replicate, length-append, length-replicate}
use lib.Seq.{take_at}
use Rattle.runs.specs.Runs.{over}
use Rattle.runs.proofs.Laws.{split, length_tab}
use Rattle.cells.specs.Cells.{entries_of}
use Rattle.receiver.specs.declared.Receiver.{Receiver}
use Rattle.receiver.specs.Receiver as R
use Rattle.receiver.proofs.Laws.{answer_refusal, answer_missing}
use Rattle.receiver.proofs.Room.{room_in_720}
use Rattle.reading.specs.Heard.{heard_by, given, hear, onward, heard_from, sound_in, missing_in, marked_with}
use Rattle.reading.specs.Records.{Whole}
use Rattle.reading.specs.Totals.{total_of, count_of, Each}
use Rattle.reading.proofs.Heard.{refused_gives}
use Rattle.reading.proofs.Totals.{total_joined}
use Rattle.line.specs.Calls.{ReceiveCall, MeetsReceive}
use Rattle.line.specs.Line.{
  Row,
  Receiving,
  taken,
  WithRoom,
  Place,
  places,
  handed_by,
  handed,
  refusals,
}
use Rattle.line.specs.Tools.{places_heard, has_mark}
use Rattle.line.proofs.Counts.{sound_by, missing_by}
use Rattle.line.proofs.Steps.{take_zip}

-- a call on three runs of 720 zeros, which is the room that a record is heard with; and such calls in a row
abbrev pub call_for : Receiver → Whole → ReceiveCall
call_for st r =
    record {
      state = st;
      cell = r.cell;
      indication = r.indication;
      samples = replicate 720 0;
      ancillary = replicate 720 0;
      marks = replicate 720 0;
      answer = (hear st r).answer;
      samples_after = over (hear st r).samples (replicate 720 0);
      ancillary_after = over (hear st r).ancillary (replicate 720 0);
      marks_after = over (hear st r).marks (replicate 720 0);
    }

unfoldable pub calls_for : Receiver → List Whole → List ReceiveCall
calls_for st [] = []
calls_for st (r ∷ rs) = call_for st r ∷ calls_for (onward (hear st r)) rs

meets_receive : (st : Receiver) (r : Whole) → MeetsReceive (call_for st r)
unfolding hear given R.judged_of
meets_receive st r = record { answered = refl; samples_after = refl; ancillary_after = refl; marks_after = refl }

has_room : (st : Receiver) (r : Whole) → WithRoom (call_for st r)
has_room st r =
    record {
      ancillary_equal = refl;
      marks_equal = refl;
      long_enough = room_in_720 st r.cell r.indication _ _ _ (omega arith);
    }

pub calls_in_a_row : (st : Receiver) (records : List Whole) → Receiving MeetsReceive st (calls_for st records)
unfolding Row calls_for
calls_in_a_row st [] = tt
calls_in_a_row st (r ∷ rs) = (refl, meets_receive st r, calls_in_a_row (onward (hear st r)) rs)

pub calls_take : (st : Receiver) (records : List Whole) → map taken (calls_for st records) ≡ records
unfolding calls_for
calls_take st [] = refl
calls_take st (r ∷ rs) = ap (λ (l : List Whole). r ∷ l) (calls_take (onward (hear st r)) rs)

pub calls_room : (st : Receiver) (records : List Whole) → Each WithRoom (calls_for st records)
unfolding Each calls_for
calls_room st [] = tt
calls_room st (r ∷ rs) = (has_room st r, calls_room (onward (hear st r)) rs)

-- they answer as the records are heard
pub calls_refuse : (st : Receiver) (records : List Whole)
    → refusals (calls_for st records) ≡ map (λ h. h.answer.refusal) (heard_from st records)
unfolding calls_for heard_by
calls_refuse st [] = refl
calls_refuse st (r ∷ rs) = ap (λ (l : List ℕ). (hear st r).answer.refusal ∷ l) (calls_refuse (onward (hear st r)) rs)

pub calls_take_cells : (st : Receiver) (records : List Whole)
    → sound_by (calls_for st records) ≡ sound_in (heard_from st records)
unfolding calls_for heard_by total_of
calls_take_cells st [] = refl
calls_take_cells st (r ∷ rs) =
    ap (λ (n : ℕ). cond (eqb (hear st r).answer.refusal 0) 1 0 + n) (calls_take_cells (onward (hear st r)) rs)

pub calls_miss : (st : Receiver) (records : List Whole) → missing_by (calls_for st records) ≡ missing_in (heard_from st records)
unfolding calls_for heard_by total_of
calls_miss st [] = refl
calls_miss st (r ∷ rs) = ap (λ (n : ℕ). (hear st r).answer.missing + n) (calls_miss (onward (hear st r)) rs)

-- a run that is given (missing + 1) times C×T entries
pub length_given : (st : Receiver) (r : Whole) (read : ℕ → ℕ) (v : ℕ) → (hear st r).answer.refusal ≡ 0
    → length (given st r (R.entries_now read v st r.cell)) ≡ ((hear st r).answer.missing + 1) * R.used_now st
unfolding hear given R.judged_of R.entries_given R.entries_now entries_of
length_given st r read v ok =
    let none : R.receive_refusal st r.cell r.indication 720 720 720 ≡ 0
    = sym (answer_refusal st r.cell r.indication 720 720 720) ∙ ok in
    let gap = R.gap_of st r.cell in
    let used = R.used_now st in
    let told : (R.received_of st r.cell r.indication 720 720 720).missing ≡ gap - 1
    = answer_missing st r.cell r.indication 720 720 720 none in
    rw (none, told)
    (length-append (replicate ((gap - 1) * used) v) _
    ∙ ap₂ (λ (a b : ℕ). a + b) (length-replicate ((gap - 1) * used) v) (length_tab _ _)
    ∙ rw (add-one (gap - 1), suc-mul (gap - 1) used))

-- what a call hands out is what is made of the record
taken_whole : (n : ℕ) (new run : List ℕ) → length new ≡ n → take n (over new run) ≡ new
unfolding over
taken_whole n new run e = take_at new _ n e

hands_heard : (st : Receiver) (r : Whole) → handed_by (call_for st r) ≡ places_heard (hear st r)
unfolding hear zip zip_with
hands_heard st r =
    split (eqb (hear st r).answer.refusal 0)
    (λ e.
    let ok = eqb-true _ 0 e in
    let n = ((hear st r).answer.missing + 1) * R.used_now st in
    let S = (hear st r).samples in
    let A = (hear st r).ancillary in
    let M = (hear st r).marks in
    let zeros : List ℕ = replicate 720 0 in
    rw e
    (take_zip n (over S zeros) (zip (over A zeros) (over M zeros))
    ∙ ap₂ zip (taken_whole n S zeros (length_given st r _ 0 ok))
    (take_zip n (over A zeros) (over M zeros)
    ∙ ap₂ zip (taken_whole n A zeros (length_given st r _ 0 ok)) (taken_whole n M zeros (length_given st r _ 2 ok)))))
    (λ e.
    let nothing = refused_gives st r e (R.samples_now st r.cell) in
    rw (e, nothing))

pub calls_hand : (st : Receiver) (records : List Whole)
    → handed (calls_for st records) ≡ flat_map places_heard (heard_from st records)
unfolding calls_for heard_by flat_map
calls_hand st [] = refl
calls_hand st (r ∷ rs) = ap₂ (λ (a b : List Place). a ++ b) (hands_heard st r) (calls_hand (onward (hear st r)) rs)

-- the marks of a record are those of its places
marks_of_lem : (mark : ℕ) (xs ys zs : List ℕ) → length xs ≡ length zs → length ys ≡ length zs
    → count_of (λ m. eqb m mark) zs ≡ count_of (has_mark mark) (places xs ys zs)
unfolding total_of zip zip_with
marks_of_lem mark [] [] [] a b = refl
marks_of_lem mark (x ∷ xs) (y ∷ ys) (z ∷ zs) a b =
    ap (λ (n : ℕ). cond (eqb z mark) 1 0 + n) (marks_of_lem mark xs ys zs (omega arith) (omega arith))
marks_of_lem mark [] (y ∷ ys) (z ∷ zs) a b = absurd (omega arith)
marks_of_lem mark [] [] (z ∷ zs) a b = absurd (omega arith)
marks_of_lem mark [] (y ∷ ys) [] a b = absurd (omega arith)
marks_of_lem mark (x ∷ xs) ys [] a b = absurd (omega arith)
marks_of_lem mark (x ∷ xs) [] (z ∷ zs) a b = absurd (omega arith)

marks_heard : (mark : ℕ) (st : Receiver) (r : Whole)
    → count_of (λ m. eqb m mark) (hear st r).marks ≡ count_of (has_mark mark) (places_heard (hear st r))
unfolding hear zip zip_with total_of
marks_heard mark st r =
    split (eqb (hear st r).answer.refusal 0)
    (λ e.
    let ok = eqb-true _ 0 e in
    marks_of_lem mark (hear st r).samples (hear st r).ancillary (hear st r).marks
    (length_given st r _ 0 ok ∙ sym (length_given st r _ 2 ok))
    (length_given st r _ 0 ok ∙ sym (length_given st r _ 2 ok)))
    (λ e.
    let none = refused_gives st r e in
    rw (none (R.samples_now st r.cell), none (R.marks_now st r.cell)))

pub heard_marks : (mark : ℕ) (st : Receiver) (records : List Whole)
    → marked_with mark (heard_from st records) ≡ count_of (has_mark mark) (flat_map places_heard (heard_from st records))
unfolding heard_by total_of flat_map
heard_marks mark st [] = refl
heard_marks mark st (r ∷ rs) =
    let next = onward (hear st r) in
    ap₂ (λ (a b : ℕ). a + b) (marks_heard mark st r) (heard_marks mark next rs)
    ∙ sym (total_joined (λ p. cond (has_mark mark p) 1 0) (places_heard (hear st r)) (flat_map places_heard (heard_from next rs)))
