-- Of each call that takes a cell, and of the cell: the report, C×T and what is handed out.
-- Assumes nothing.
use mathlib.Core.Bool.{false, cond}
use mathlib.Core.List.{List, ◌∷◌, ◌++◌, map}
use mathlib.Core.Path.{◌≡◌, refl}
use Prim.Native.Nat.{ℕ, suc}
use borrow.Author.Tests.{ltb-true, ltb-false}
use lib.Dec.{ltb}
use lib.ListN.{replicate}
use Rattle.runs.proofs.Laws.{split}
use Rattle.sender.specs.declared.Sender.{Sender}
use Rattle.sender.specs.Sender as S
use Rattle.receiver.specs.Receiver as R
use Rattle.reading.specs.Totals.{those}
use Rattle.slips.specs.Reports.{Report}
use Rattle.line.specs.Calls.{SendCall, ReceiveCall}
use Rattle.line.specs.Demands.{Tells}
use Rattle.line.specs.Line.{is_lost, Trip, Place, places, handed_by, places_of}
use Rattle.line.specs.Losses.{Since, after, comes_round, Told, story_from, taken_from, missing_before, places_with}
use Rattle.line.specs.Seconds.{report_of}
use Rattle.line.proofs.Steps.{missing}

-- of a call that took a cell: its report, C×T and what it handed out; and of the cell
abbrev pub Piece : Type 0
Piece = Report × (ℕ × List Place)

abbrev pub piece_of : ReceiveCall → Piece
piece_of c = (report_of c, (R.used_now c.state, handed_by c))

abbrev pub second_told : Sender → ℕ → ℕ
second_told st second = cond (ltb (S.format_now st).slots 12) 0 second

abbrev pub report_with : Told → Report
report_with x =
    record {
      missing = missing_before x;
      number = x.trip.sent.state.number;
      second = second_told x.trip.sent.state (S.second_now x.trip.sent.state x.trip.sent.indication);
    }

abbrev pub piece_with : Told → Piece
piece_with x = (report_with x, (S.used_now x.trip.sent.state, places_with x))

-- the second number as it is reported, and an unaltered cell's places
pub second_said : (s : SendCall) (c : ReceiveCall) → Tells s c → c.answer.second ≡ second_told s.state (S.second_now s.state s.indication)
second_said s c said =
    split (ltb (S.format_now s.state).slots 12)
    (λ t. rw t (said.no_second_told (ltb-true _ _ t)))
    (λ f. rw f (said.second_told_lem (ltb-false _ _ f)))

pub own_places : (t : Trip) → is_lost t.fate ≡ false → (n : ℕ)
    → replicate n missing ++ places t.sent.samples t.sent.ancillary (replicate (S.used_now t.sent.state) 0)
    ≡ replicate n missing ++ places_of t
unfolding places_of
own_places t kept n = rw kept refl

pub one_taken : (t : Trip) (place : ℕ) (since : Since) (ts : List Trip) → is_lost t.fate ≡ false → comes_round since ≡ false
    → piece_with (record { trip = t; place = place; since = since }) ∷ map piece_with (taken_from (suc place) (after 0) ts)
    ≡ map piece_with (taken_from place since (t ∷ ts))
unfolding story_from those
one_taken t place since ts kept turns = rw (kept, turns) refl
